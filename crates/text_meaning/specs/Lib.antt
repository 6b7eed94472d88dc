-- What a text spells.
pub mod Bytes
pub mod Tokens
pub mod Cut
pub mod Cutting
pub mod Trees
pub mod Grammar
pub mod Nesting
pub mod Reading
pub mod Parsing
pub mod Splitting
pub mod Dividing
pub mod UpToSpans
pub mod Dependencies
pub mod TextAnswers
pub mod Places
pub mod Labels
