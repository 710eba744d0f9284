pub mod Least
pub mod Gathered
