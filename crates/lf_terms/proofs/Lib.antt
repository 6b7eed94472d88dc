pub mod SameName
pub mod SharedPairs
pub mod FirstPlaces
pub mod FlatTables
pub mod Lookup
pub mod EarlierConstants
pub mod OneTheory
