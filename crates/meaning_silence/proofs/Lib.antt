pub mod Rows
pub mod Initializing
pub mod Listed
pub mod Untold
pub mod Silence
