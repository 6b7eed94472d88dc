pub mod ClosureLaws
pub mod Examples
pub mod WordExamples
