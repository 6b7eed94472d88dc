pub mod TakenArguments
pub mod ClosedTerms
pub mod HeadsStand
pub mod OutcomesStand
pub mod NamesStand
pub mod ExpansionSteps
pub mod KindSteps
pub mod PublicAnswers
