-- Worked examples.
pub mod Loops
