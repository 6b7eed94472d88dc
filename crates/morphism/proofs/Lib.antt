pub mod Below
mod CoverAnswers
mod LinkMaps
