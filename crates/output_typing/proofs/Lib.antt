pub mod KeptTyping
