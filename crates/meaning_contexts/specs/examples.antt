-- Worked examples.
pub mod Failures
