pub mod Crossing
pub mod AnsweredFaces
pub mod Judged
pub mod FirstAmong
pub mod TextNames
pub mod Cyclic
pub mod LibraryGraph
pub mod FromTexts
pub mod JudgingOrder
pub mod OneLibrary
mod VerdictsTyped
