-- Worked examples.
pub mod Tokens
