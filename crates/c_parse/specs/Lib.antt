pub mod Rows
pub mod Telling
pub mod Steps
pub mod Moments
pub mod Kept
pub mod Answers
