pub mod Units
pub mod Seen
pub mod Marking
pub mod Asked
pub mod Placed
pub mod Force
