pub mod Tasks
pub mod WordsAnswered
pub mod WordsAsked
pub mod Workers
