-- Worked examples.
pub mod Failures
pub mod Trees
pub mod Order
