-- What is proved of the definitions.
pub mod Above
pub mod Labels
