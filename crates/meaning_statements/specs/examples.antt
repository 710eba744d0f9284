-- Worked examples.
pub mod Drawn
pub mod Jumps
pub mod Statements
