pub mod NodeLemmas
pub mod WordLemmas
pub mod MarkLemmas
pub mod MarkingLemmas
pub mod AskedLemmas
pub mod ParameterLemmas
pub mod PartLemmas
