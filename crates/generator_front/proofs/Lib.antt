mod Asking
mod BetweenEdits
mod FirstLibraries
mod GeneratedTexts
pub mod GivenEdits
pub mod LaterHistories
mod SettledEdits
mod Settling
mod Tallies
