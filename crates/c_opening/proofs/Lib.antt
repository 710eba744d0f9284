pub mod Opened
pub mod Missing
