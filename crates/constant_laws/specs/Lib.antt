pub mod HoldingLaws
pub mod TranslationHolds
pub mod HeadsHold
pub mod ExpansionHolds
