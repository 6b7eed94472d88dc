pub mod Statuses
pub mod Flushed
pub mod Taking
