pub mod Growing
pub mod Replaced
pub mod Heads
pub mod Translating
pub mod Declared
pub mod OutcomesHold
pub mod Expanding
pub mod Holding
