pub mod Wider
pub mod Derived
pub mod DerivedModules
pub mod ReadingPlaces
pub mod FilePlaces
