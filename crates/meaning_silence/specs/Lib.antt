pub mod Initializing
pub mod Laws
