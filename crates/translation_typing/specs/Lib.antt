pub mod AtomicBodies
pub mod KindedFamilies
pub mod SortedTranslation
pub mod FamilyHeads
pub mod TypedTranslation
pub mod Composition
