mod MadeLogs
mod FoundOrigins
mod LoadedModules
mod Lines
mod Parts
mod Outputs
pub mod Told
mod Results
mod Writing
mod FaultLines
mod Pages
mod Counting
mod Editing
mod Ended
pub mod Led
