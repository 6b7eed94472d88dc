-- Lemmas about files.
pub mod Divisions
pub mod OneDivision
pub mod DivisionExamples
