pub mod Examples
pub mod TranslationLaws
pub mod ValueLaws
