pub mod ToldTyping
