pub mod Reaching
pub mod Standing
pub mod Completing
pub mod Answering
pub mod Valuing
pub mod Numbering
