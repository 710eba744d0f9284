pub mod Units
pub mod Failures
pub mod Laws
pub mod examples
