pub mod TypedFunctionMaps
pub mod ErasedTranslation
pub mod CommutingTranslation
pub mod TypedTranslation
pub mod AtomicImages
pub mod Examples
