mod ArrivingLemmas
mod Depth
mod FindingLemmas
mod GoingLemmas
mod ItemLemmas
mod Joining
mod LevelLemmas
mod NextLemmas
mod PartLemmas
mod PathLemmas
pub mod ReadingLemmas
mod StepLemmas
mod TakeLemmas
pub mod Telling
mod TurnLemmas
mod WalkLemmas
pub mod Walks
mod WayLemmas
