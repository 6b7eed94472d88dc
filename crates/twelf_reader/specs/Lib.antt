-- What the parts of a reader of modules come to.
pub mod Items
pub mod Answers
pub mod Division
pub mod Dependencies
