pub mod InstallLaws
pub mod ScriptBacking
