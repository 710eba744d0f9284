pub mod DeclaratorLemmas
pub mod ObjectLemmas
pub mod JudgingLemmas
pub mod RowLemmas
