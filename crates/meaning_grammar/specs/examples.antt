-- Worked examples.
pub mod Choices
pub mod Words
