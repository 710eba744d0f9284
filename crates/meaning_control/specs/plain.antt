-- A program beside the definitions.
pub mod Paths
