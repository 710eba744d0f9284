pub mod NumberLemmas
pub mod PartLemmas
pub mod WayLemmas
pub mod OutlineLemmas
pub mod KnownLemmas
pub mod MeasureLemmas
pub mod SizedLemmas
pub mod OffsetLemmas
