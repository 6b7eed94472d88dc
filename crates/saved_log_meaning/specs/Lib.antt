pub mod Records
pub mod SavedFiles
pub mod Disks
pub mod Appends
