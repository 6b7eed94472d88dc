pub mod Below
pub mod Carried
pub mod CarriedInReach
pub mod ReachFaces
