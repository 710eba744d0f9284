pub mod Numbers
pub mod Multiples
pub mod Wrapping
pub mod BitOperators
pub mod Ranges
pub mod Bits
pub mod Nodes
