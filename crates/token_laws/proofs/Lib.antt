-- Lemmas about the cut.
pub mod CutFollows
pub mod CutExists
pub mod OneCut
pub mod CutExamples
pub mod Spans
pub mod Steps
pub mod PrintedTokens
pub mod Bytes
