pub mod Leaves
pub mod Completing
