-- The same as programs.
pub mod Filling
