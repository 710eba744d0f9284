pub mod Found
pub mod Rows
pub mod Parts
pub mod Constants
pub mod Operators
