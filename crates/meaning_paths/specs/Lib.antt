pub mod Steps
pub mod Walks
pub mod Graphs
pub mod ContextRules
pub mod laws
pub mod examples
