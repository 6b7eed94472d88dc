pub mod Pieces
pub mod Commands
pub mod Said
pub mod HeldTexts
pub mod Texts
pub mod Answers
pub mod Reading
pub mod Generating
