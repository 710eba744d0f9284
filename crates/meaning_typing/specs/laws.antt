-- What is proved of the definitions.
pub mod Equality
pub mod Surroundings
pub mod Words
pub mod Members
