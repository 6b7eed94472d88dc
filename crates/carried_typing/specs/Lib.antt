pub mod Below
pub mod CarriedTyping
