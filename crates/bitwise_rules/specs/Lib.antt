pub mod Outlines
pub mod Seen
