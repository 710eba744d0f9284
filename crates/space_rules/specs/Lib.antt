pub mod Outlines
pub mod Seen
pub mod Targets
