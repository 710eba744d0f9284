-- Laws.
pub mod Listings
