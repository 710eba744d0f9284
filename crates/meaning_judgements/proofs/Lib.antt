pub mod RowLemmas
pub mod FactLemmas
pub mod JudgementLemmas
