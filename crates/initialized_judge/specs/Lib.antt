pub mod Objects
pub mod Judging
pub use Rattle.init_judge.specs.Laws
pub use Rattle.init_judge.specs.Steps
