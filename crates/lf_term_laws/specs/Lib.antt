pub mod Application
pub mod EqualityLaws
pub mod Examples
