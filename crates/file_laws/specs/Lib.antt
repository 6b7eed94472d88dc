-- What holds of the division of files.
pub mod DivisionExamples
pub mod DivisionLaws
