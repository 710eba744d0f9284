pub mod Finding
pub mod Standing
pub mod LookingUp
pub mod Listing
pub mod ListedStand
pub mod Runs
pub mod Lying
pub mod Renaming
mod LaidExamples
