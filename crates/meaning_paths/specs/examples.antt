-- Worked examples.
pub mod Graphs
pub mod Loops
pub mod Calls
