pub mod Heads
pub mod LongForms
