pub mod Operands
pub mod Operators
pub mod Answers
pub mod Conversions
pub mod Accesses
pub mod Failures
pub mod laws
pub mod examples
