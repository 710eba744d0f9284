pub mod Operators
pub mod Signs
pub mod Expressions
pub mod Values
pub mod Answers
pub mod plain
pub mod laws
pub mod examples
