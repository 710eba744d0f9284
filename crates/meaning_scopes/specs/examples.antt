-- Worked examples.
pub mod Scopes
