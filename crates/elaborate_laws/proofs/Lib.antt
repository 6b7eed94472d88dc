pub mod Binding
pub mod Complete
pub mod NamesStand
pub mod Sound
pub mod Standing
pub mod ValuesStand
