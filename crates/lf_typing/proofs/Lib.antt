pub mod Declared
pub mod Typed
pub mod Closed
pub mod Weakening
pub mod Regular
pub mod SubstitutionTyping
pub mod Growing
pub mod HeadTyping
pub mod TypedMisfits
pub mod Faultless
pub mod FirstBadDeclaration
mod Unknown
