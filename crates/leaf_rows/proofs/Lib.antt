pub mod ConversionLemmas
mod ConstantLemmas
mod CompletingLemmas
