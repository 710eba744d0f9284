pub mod MultipleLemmas
pub mod LayoutLemmas
pub mod SizeLemmas
pub mod RepeatLemmas
pub mod TellingLemmas
pub mod NameLemmas
