pub mod Below
pub mod OneLibraryKnown
pub mod CarriedJudgements
