pub mod Examples
pub mod HistoryLaws
pub mod StandingLaws
pub mod PointLaws
pub mod BackingLaws
pub mod TurnLaws
