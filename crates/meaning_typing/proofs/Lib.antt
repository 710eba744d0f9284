pub mod Lists
pub mod Equality
pub mod Surroundings
pub mod Words
pub mod Members
