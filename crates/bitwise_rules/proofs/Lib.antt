pub mod OutlineLemmas
