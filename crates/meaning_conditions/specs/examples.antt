-- Worked examples.
pub mod Conditions
