-- What is proved of the definitions.
pub mod Expansion
pub mod Agreement
