pub mod Costs
pub mod CostsOfItems
pub mod CheapestPlaces
pub mod CheapestSpelling
pub mod CheapestModules
pub mod Fewest
