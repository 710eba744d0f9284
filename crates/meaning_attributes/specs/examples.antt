-- Worked examples.
pub mod Attributes
pub mod Contexts
