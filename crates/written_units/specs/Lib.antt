pub mod Order
pub mod Filling
pub mod Linking
