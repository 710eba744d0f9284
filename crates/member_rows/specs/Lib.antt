pub mod Aggregates
pub mod Marks
pub mod Selections
pub mod Members
pub mod Steps
pub mod Laws
