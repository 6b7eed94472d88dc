-- Parentheses of texts, and that printed texts have the fewest.
pub mod FewestParentheses
