-- What is proved of the definitions.
pub mod Conditions
pub mod ZeroDivisors
