pub mod ConstAggregates
pub mod Stores
pub mod Rows
pub mod Laws
