pub mod Below
pub mod TypedMapsOfLinks
pub mod FaceTypingLaws
pub mod JudgedTyping
pub mod BuildingTyping
pub mod CarryingMaps
