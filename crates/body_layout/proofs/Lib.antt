mod PlacingLemmas
pub mod NarrowLemmas
