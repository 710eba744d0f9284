pub mod Finding
pub mod Listing
pub mod Parameters
pub mod Appending
