pub mod TypingOfHeads
pub mod TypingOfExpansion
pub mod AppliedFamilies
