-- What is proved of the definitions.
pub mod Units
pub mod Lines
pub mod Macros
pub mod LongerFiles
