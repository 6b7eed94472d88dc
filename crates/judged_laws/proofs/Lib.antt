pub mod Computed
pub mod Translated
