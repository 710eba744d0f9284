pub mod Places
pub mod Warnings
pub mod Listing
pub mod Errors
pub mod laws
pub mod examples
