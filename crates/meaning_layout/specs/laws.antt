-- What is proved of the definitions.
pub mod Layouts
pub mod Sizes
pub mod Repeats
