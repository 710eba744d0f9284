-- Worked examples.
pub mod Types
pub mod Derived
