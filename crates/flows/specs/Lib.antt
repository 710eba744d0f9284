pub mod Reading
pub mod Steps
pub mod Lines
pub mod Asked
pub mod Shown
pub mod Answers
pub mod Files
pub mod Written
