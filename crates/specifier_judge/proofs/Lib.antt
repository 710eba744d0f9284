pub mod KindLemmas
pub mod PartLemmas
pub mod RowLemmas
pub mod LoadedLemmas
pub mod KeptLemmas
