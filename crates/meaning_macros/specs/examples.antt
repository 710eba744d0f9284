-- Worked examples.
pub mod Reading
pub mod Rows
pub mod Expansions
pub mod Mixed
pub mod Budgets
pub mod Definitions
