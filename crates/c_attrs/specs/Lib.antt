pub mod Seen
pub mod Meanings
pub mod Fronts
pub mod Cuts
pub mod Parts
pub mod Closing
pub mod Integers
