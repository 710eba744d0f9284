pub mod Above
pub mod Jumps
pub mod Statements
pub mod StatementRows
pub mod laws
pub mod examples
