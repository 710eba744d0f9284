-- What is proved of the definitions.
pub mod Trees
pub mod Laid
