pub mod ScriptsComputed
pub mod FoldersComputed
pub mod WordsComputed
