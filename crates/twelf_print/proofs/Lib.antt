pub mod Texts
pub mod Nodes
pub mod FrontTexts
pub mod PublicClauses
