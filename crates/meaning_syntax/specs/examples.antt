-- Worked examples.
pub mod Units
pub mod Trees
