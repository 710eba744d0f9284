pub mod BodyLemmas
mod ConditionLemmas
mod FrontLemmas
mod GroupLemmas
mod HeaderLemmas
pub mod KnownLemmas
pub mod LineLemmas
pub mod MacroLineLemmas
mod ParameterLemmas
pub mod PartLemmas
mod SearchLemmas
