pub mod Units
pub mod Trees
pub mod Laws
pub mod examples
