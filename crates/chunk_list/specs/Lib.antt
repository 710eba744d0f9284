pub mod Chunks
pub mod LentFront
