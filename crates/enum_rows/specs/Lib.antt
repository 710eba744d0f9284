pub mod Integers
pub mod Rows
pub mod Values
pub mod Enumerations
pub mod Names
