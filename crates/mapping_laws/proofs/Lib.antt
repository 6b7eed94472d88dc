pub mod Mapped
pub mod Followed
pub mod NextMapped
