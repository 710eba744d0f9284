pub mod Initialized
pub mod Rows
pub mod Plain
pub mod Laws
pub mod Examples
