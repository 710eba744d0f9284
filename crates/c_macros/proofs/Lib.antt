mod ArgumentLemmas
mod BeginLemmas
mod BodyLemmas
mod BodyPartLemmas
mod BorderLemmas
mod CallLemmas
mod CallReadLemmas
mod ChainLemmas
mod ClosingLemmas
mod EndLemmas
mod ExpansionLemmas
mod GrowthLemmas
mod HideLemmas
mod HoldLemmas
mod KnownLemmas
pub mod KnowsLemmas
mod LayLemmas
mod OpenLemmas
mod ParameterLemmas
pub mod PlainLemmas
mod PartLemmas
mod PastingLemmas
pub mod PredefinedLemmas
mod PurposeLemmas
mod RawLemmas
pub mod ReadingLemmas
mod ReplaceLemmas
mod SpellingLemmas
mod StepLemmas
mod StopLemmas
mod TableLemmas
mod UseLemmas
mod VectorLemmas
