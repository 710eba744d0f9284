-- Worked examples.
pub mod Literals
