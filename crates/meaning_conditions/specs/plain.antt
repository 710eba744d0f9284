-- The plain program.
pub mod Reading
