-- Worked examples, and expressions beside a compiler.
pub mod Numbers
pub mod Wrapping
pub mod Expressions
pub mod Constants
pub mod Enumerators
pub mod Compared
pub mod Nodes
