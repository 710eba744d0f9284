-- Worked examples.
pub mod Units
pub mod Types
pub mod Warnings
pub mod Errors
pub mod Listings
