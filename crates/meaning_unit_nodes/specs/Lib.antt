pub mod Written
pub mod Numbered
pub mod Linked
pub mod Laws
pub mod examples
