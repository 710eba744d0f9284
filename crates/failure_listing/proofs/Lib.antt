mod OrderLemmas
pub mod Listings
