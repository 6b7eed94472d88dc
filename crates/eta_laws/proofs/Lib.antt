pub mod LongTerms
pub mod Identity
pub mod LongFamilies
pub mod IdentityTyping
pub mod LongValues
