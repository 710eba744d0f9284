-- Worked examples.
pub mod SafeTexts
