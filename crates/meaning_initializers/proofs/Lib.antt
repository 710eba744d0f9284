pub mod Uniqueness
pub mod Answering
pub mod ExampleLemmas
pub mod Existence
pub mod Constants
pub mod LeafParts
