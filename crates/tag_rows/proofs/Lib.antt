pub mod KeptLemmas
pub mod AttributeLemmas
pub mod SpecifierLemmas
