pub mod GrowthLemmas
mod KeptLemmas
mod MarkLemmas
mod Alike
