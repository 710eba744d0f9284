pub mod Laws
pub mod SameTypes
