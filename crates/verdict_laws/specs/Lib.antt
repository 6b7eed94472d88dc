pub mod VerdictLaws
pub mod AnswersKnown
