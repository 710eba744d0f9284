-- Worked examples.
pub mod Drawn
pub mod Conditions
pub mod Statements
pub mod Flows
