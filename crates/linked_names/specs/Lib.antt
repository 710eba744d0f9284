pub mod Linked
pub mod Forms
pub mod Witnesses
pub mod Kept
pub mod Typedefs
pub mod Contexts
