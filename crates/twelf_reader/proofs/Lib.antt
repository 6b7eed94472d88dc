-- Lemmas on texts and their readings, and on files.
pub mod Endings
pub mod Readings
pub mod Dividing
pub mod Divided
pub mod AddedNames
