pub mod BranchLemmas
pub mod MadeLemmas
pub mod PairLemmas
pub mod PlainLemmas
pub mod PushLemmas
pub mod TableLemmas
