pub mod NodeLemmas
pub mod FunctionLemmas
pub mod ListLemmas
pub mod LaidLemmas
pub mod JudgedLemmas
pub use Rattle.type_judge.proofs.JudgingLemmas
