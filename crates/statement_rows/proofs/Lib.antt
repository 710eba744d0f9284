pub mod TestLemmas
pub mod ReturnLemmas
pub mod RowLemmas
