pub mod Computed
pub mod Differing
pub mod Spines
mod Typed
pub mod FirstUnmapped
pub mod ValuesOut
