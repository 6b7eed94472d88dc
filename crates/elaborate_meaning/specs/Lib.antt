pub mod Below
pub mod Rules
pub mod Answers
pub mod Locals
pub mod NameHeads
pub mod Expansion
pub mod Values
pub mod Stands
