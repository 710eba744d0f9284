-- What is proved of the definitions.
pub mod Outcomes
pub mod Sorts
pub mod Shapes
pub mod Storage
