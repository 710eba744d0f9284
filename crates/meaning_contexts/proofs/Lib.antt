pub mod FailureLemmas
pub mod WithoutContexts
