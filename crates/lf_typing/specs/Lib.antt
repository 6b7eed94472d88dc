pub mod TypingLaws
pub mod FaultLaws
