pub mod Spelled
pub mod TypeNames
pub mod Laws
pub mod examples
