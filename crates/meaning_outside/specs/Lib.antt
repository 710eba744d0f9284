pub mod Faults
pub mod Files
pub mod Loads
pub mod laws
pub mod examples
