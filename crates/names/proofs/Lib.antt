mod Included
mod IncludedNames
mod IncludedPlaces
mod Qualified
mod Resolved
mod Variables
