-- Worked examples.
pub mod Written
pub mod Leaves
pub mod Refusals
pub mod Nodes
