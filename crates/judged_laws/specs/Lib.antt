pub mod CarryingLaws
pub mod Examples
