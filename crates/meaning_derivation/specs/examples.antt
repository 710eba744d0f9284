-- Worked examples.
pub mod Units
pub mod Specifiers
pub mod Literals
pub mod Tags
