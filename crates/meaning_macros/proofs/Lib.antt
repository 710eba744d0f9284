pub mod Budgets
pub mod Cases
pub mod PlainTokens
pub mod Agreeing
pub mod TableLemmas
