pub mod PresentRows
pub mod Unread
pub mod Mentions
pub mod Lawful
pub mod Known
pub mod TypedVerdicts
pub mod JudgingOrders
pub mod OneLibrary
