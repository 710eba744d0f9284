-- What holds of the definitions.
pub mod Operators
pub mod Conversions
