pub mod Seen
pub use Rattle.c_types.specs.Sizes
