-- What is proved of the definitions.
pub mod Answers
pub mod Balance
pub mod Commands
