pub mod ChainLemmas
pub mod ListLemmas
