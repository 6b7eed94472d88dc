pub mod LongTermLaws
pub mod IdentityLaws
pub mod LongValueLaws
pub mod Examples
