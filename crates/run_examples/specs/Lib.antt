pub mod ScriptExamples
pub mod FolderExamples
pub mod WordExamples
