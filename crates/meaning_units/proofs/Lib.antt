pub mod RowLemmas
pub mod JudgementLemmas
