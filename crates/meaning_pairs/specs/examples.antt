-- All pairs.
pub mod Conversions
pub mod Operators
