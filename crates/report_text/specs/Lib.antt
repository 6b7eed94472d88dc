pub mod FileWords
pub mod ToldLines
pub mod FlatTexts
pub mod CarryLines
