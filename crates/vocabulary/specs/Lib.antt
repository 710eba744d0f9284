pub mod Errors
pub mod Limits
pub mod Rules
pub mod Roles
pub mod Words
