pub mod Enclosing
pub mod Kept
pub mod Runs
pub mod Nesting
pub mod Gotos
pub mod Later
pub mod Rows
pub mod Statements
