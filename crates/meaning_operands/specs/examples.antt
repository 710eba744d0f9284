-- Worked examples.
pub mod Operands
pub mod Operators
pub mod Conversions
