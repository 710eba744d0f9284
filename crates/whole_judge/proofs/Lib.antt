pub mod GrowthLemmas
pub mod PlaceLemmas
pub mod OffsetLemmas
pub mod ConstantLemmas
pub mod WalkLemmas
pub mod LoadedLemmas
pub mod KindLemmas
pub mod NameLemmas
