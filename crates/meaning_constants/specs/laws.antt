-- What is proved of the definitions.
pub mod Numbers
pub mod Wrapping
pub mod Constants
pub mod Nodes
