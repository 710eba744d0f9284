pub mod Noreturn
pub mod Notes
pub mod Kept
