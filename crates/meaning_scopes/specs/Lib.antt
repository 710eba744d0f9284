pub mod Scopes
pub mod Classes
pub mod Redeclaration
pub mod laws
pub mod examples
