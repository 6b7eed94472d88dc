pub mod NamesUsed
pub mod Built
pub mod Declared
pub mod DueTables
pub mod WholeModules
