-- What is proved of the definitions.
pub mod Rules
pub mod Walks
