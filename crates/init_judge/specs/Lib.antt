pub mod Leaves
pub mod Said
pub mod Whole
pub mod Judging
pub mod Laws
pub use Rattle.initializer_levels.specs.Steps
