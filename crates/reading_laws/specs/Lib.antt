-- What tokens and texts spell.
pub mod ReadingLaws
pub mod AnswerLaws
pub mod ReadingExamples
