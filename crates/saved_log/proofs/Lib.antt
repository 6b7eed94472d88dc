pub mod ReadCalls
pub mod AppendCalls
pub mod ReadingRecords
pub mod ReadingGates
pub mod WholeFiles
pub mod StandingLogs
pub mod MemCalls
pub mod KeepingCalls
