mod TypeLemmas
pub mod LeastLemmas
mod BitwiseLemmas
mod PartLemmas
mod ObjectLemmas
mod CompletedLemmas
mod KeptLemmas
mod TentativeLemmas
mod LinkedLemmas
mod HidingLemmas
mod DefinedLemmas
mod StandingLemmas
