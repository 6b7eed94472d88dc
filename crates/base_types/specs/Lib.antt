pub mod Digests
pub mod HeldNames
pub mod SharedText
