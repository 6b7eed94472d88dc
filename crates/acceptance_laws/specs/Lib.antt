pub mod Declares
pub mod ViewLaws
pub mod TheoryLaws
pub mod RefusedModules
