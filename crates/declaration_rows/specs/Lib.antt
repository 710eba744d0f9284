pub mod Types
pub mod Parts
pub mod Declarators
pub mod Objects
pub mod Completed
pub mod Kept
pub mod Failures
