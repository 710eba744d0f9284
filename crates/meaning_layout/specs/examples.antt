-- Worked examples.
pub mod Layouts
pub mod Sizes
pub mod Asked
pub mod Compared
pub mod Telling
pub mod Members
