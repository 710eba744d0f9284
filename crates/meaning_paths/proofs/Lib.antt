pub mod ExampleLemmas
pub mod RuleLemmas
pub mod WalkLemmas
