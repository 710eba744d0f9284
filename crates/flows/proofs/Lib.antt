pub mod DigitLemmas
pub mod ElementLemmas
pub mod BlockLemmas
pub mod AskedLemmas
pub mod LineLemmas
pub mod NumeralLemmas
pub mod WrittenLemmas
