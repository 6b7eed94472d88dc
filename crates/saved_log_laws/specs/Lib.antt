pub mod RecordLaws
pub mod SavedFileLaws
pub mod DiskLaws
pub mod AppendLaws
pub mod Examples
