mod LinksComputed
mod TermsComputed
mod ShortTermsComputed
pub mod Computed
pub mod BoardComputed
