pub mod Apart
pub mod Edits
pub mod Installs
pub mod Tellings
pub mod Played
