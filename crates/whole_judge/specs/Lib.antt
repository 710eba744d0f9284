pub mod Known
pub mod Kinds
pub mod Walks
pub mod Constants
pub mod Names
