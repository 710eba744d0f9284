pub mod Rules
pub mod laws
pub mod examples
