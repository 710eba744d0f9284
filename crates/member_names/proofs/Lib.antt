pub mod HomeLemmas
pub mod UnitLemmas
pub mod OrderLemmas
pub mod KeptLemmas
pub mod NameLemmas
