pub mod Appended
pub mod HiddenNames
pub mod Steps
mod AnswerLemmas
mod TypesLemmas
mod FlowLemmas
