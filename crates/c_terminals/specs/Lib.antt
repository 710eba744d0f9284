pub mod Seen
pub mod Groups
pub mod Kinds
pub mod Left
