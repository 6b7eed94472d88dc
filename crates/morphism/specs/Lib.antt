pub mod Below
pub mod CoverCalls
