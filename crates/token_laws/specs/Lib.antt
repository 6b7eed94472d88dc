-- What holds of the cut of every text.
pub mod CutLaws
pub mod CutExamples
pub mod SpanLaws
pub mod PrintedLaws
