-- Plain programs.
pub mod Deriving
