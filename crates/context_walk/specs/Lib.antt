pub mod Spread
pub mod Reached
pub mod Passed
pub mod Scans
pub mod Met
