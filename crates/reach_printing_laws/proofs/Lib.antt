pub mod Below
pub mod CarriedAlike
pub mod ExpandedAlike
pub mod PrintedInReach
