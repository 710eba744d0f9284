pub mod Asked
pub mod Definitions
pub mod Shown
