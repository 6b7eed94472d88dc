pub mod Examples
pub mod PrintingLaws
