pub mod DiskCalls
pub mod Parts
pub mod Standing
pub mod MemDisks
pub mod KeptCalls
pub mod HeldFiles
