pub mod Kinds
pub mod Bodies
pub mod Asked
pub mod Found
pub use Rattle.type_judge.specs.Judging
pub use Rattle.type_judge.specs.NamedTypes
pub use Rattle.type_judge.specs.declared.judging.Judged
pub use Rattle.type_judge.specs.declared.fault.JudgeFault
