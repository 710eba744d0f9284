pub mod Compare
pub mod Escapes
pub mod Lines
