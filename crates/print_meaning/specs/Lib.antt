pub mod PrintedExpressions
pub mod PrintedItems
pub mod PrintedJudgements
pub mod PrintedModules
