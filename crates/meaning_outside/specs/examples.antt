-- Worked examples.
pub mod Outside
