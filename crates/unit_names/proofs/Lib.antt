mod KeptLemmas
mod ListLemmas
mod UnitLemmas
pub mod NodeLemmas
