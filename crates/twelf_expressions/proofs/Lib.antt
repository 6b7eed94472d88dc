-- Lemmas on the tokens of a text and on expressions.
pub mod SignCases
pub mod Lexemes
pub mod Moves
pub mod Frames
pub mod Outlines
