pub mod NumberSets
pub mod Branches
