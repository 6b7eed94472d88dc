pub mod Answered
pub mod Arguments
pub mod Declarations
pub mod Environments
pub mod Prefixes
