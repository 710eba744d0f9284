pub mod KeptLemmas
pub mod LinkedLemmas
pub mod BehindLemmas
pub mod AgainLemmas
pub mod RowLemmas
pub mod DeclarationLemmas
pub mod AssertionLemmas
