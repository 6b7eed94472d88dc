pub mod Rounds
pub mod Shortness
pub mod KnownAnswers
pub mod Verdicts
