-- Worked examples.
pub mod Runs
pub mod Activities
pub mod Rows
pub mod Steps
