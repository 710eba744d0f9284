pub mod StoreLemmas
pub mod TellingLemmas
pub mod ConstLemmas
pub mod OutlineLemmas
pub mod RowLemmas
pub mod CallLemmas
