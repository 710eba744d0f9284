-- Worked examples.
pub mod Names
