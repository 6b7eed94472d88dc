pub mod Below
mod Reaching
mod FirstNumbers
mod NumberedTargets
mod PathsReached
mod Imaging
mod SharedParts
mod Spans
pub mod SharedImages
