-- How a reader goes through the tokens of a text.
pub mod Signs
pub mod Left
pub mod Going
pub mod Frames
pub mod Outlines
