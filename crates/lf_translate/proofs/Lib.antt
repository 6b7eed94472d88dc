pub mod Faults
pub mod TranslatedObjects
pub mod TranslatedFamilies
pub mod BareValues
pub mod ListsLeft
pub mod Made
