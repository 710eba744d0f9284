pub mod ListLemmas
pub mod PartLemmas
pub mod PassLemmas
pub mod UnitLemmas
pub mod SettingLemmas
pub mod KeptLemmas
