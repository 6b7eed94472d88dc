-- How a lexer goes through a text.
pub mod Scans
pub mod Advances
pub mod Rows
pub mod Lexemes
pub mod Pieces
pub mod Steps
pub mod Answers
