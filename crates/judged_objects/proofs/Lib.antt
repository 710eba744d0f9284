mod FactLemmas
mod NoteLemmas
mod KeptLemmas
