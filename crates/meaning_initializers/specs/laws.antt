-- What is proved of the definitions.
pub mod Filling
pub mod Constants
pub mod Parts
