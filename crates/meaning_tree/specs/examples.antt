-- Worked examples.
pub mod Trees
pub mod Forms
pub mod Laid
