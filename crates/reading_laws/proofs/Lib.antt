-- Lemmas about reading.
pub mod Runs
pub mod Spelled
pub mod Fits
pub mod Sound
pub mod Completes
pub mod Stopping
pub mod OneAnswer
pub mod ReadingExamples
