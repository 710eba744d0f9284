pub mod Equality
pub mod Levels
pub mod Spaces
pub mod Conversions
