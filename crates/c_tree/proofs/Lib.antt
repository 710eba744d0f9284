mod Nodes
mod Units
pub mod Numbers
