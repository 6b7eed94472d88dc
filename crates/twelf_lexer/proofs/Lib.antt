-- Lemmas of the lexer.
pub mod Fronts
pub mod Places
pub mod RowSteps
pub mod RowLoops
pub mod Marks
mod OnlyCut
pub mod Props
pub mod CommentSteps
pub mod StepLemmas
pub mod Lexemes
pub mod LexLoop
