-- What is proved of the definitions.
pub mod Table
pub mod Reach
