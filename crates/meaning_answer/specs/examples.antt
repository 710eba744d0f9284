-- Worked examples.
pub mod Answers
pub mod Completion
