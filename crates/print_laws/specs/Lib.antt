-- What printed modules and expressions are, and that they spell what was printed.
pub mod PrintLaws
