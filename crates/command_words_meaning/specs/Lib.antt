pub mod WordLists
pub mod WordAnswers
