pub mod Seen
pub mod Slots
