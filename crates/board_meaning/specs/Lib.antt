pub mod Events
pub mod Claims
pub mod Standing
pub mod Ready
pub mod Machine
pub mod Legal
pub mod Points
pub mod Turns
