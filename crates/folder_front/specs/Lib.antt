pub mod Stops
pub mod Edits
pub mod Sheets
pub mod Written
pub mod Checked
