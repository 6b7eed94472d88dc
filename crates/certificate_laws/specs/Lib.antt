pub mod StepLaws
pub mod CertificateLaws
pub mod Examples
pub mod TextLaws
pub mod TextExamples
