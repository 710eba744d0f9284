pub mod Grouping
pub mod Entries
