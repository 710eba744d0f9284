pub mod Runs
pub mod ElementLemmas
pub mod GrammarLemmas
pub mod IntegerLemmas
