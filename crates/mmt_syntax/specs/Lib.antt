-- What modules are, as they are written.
pub mod Readings
pub mod Places
pub mod Dependencies
pub mod DependenciesLeft
