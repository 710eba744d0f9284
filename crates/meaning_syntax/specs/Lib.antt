pub mod Words
pub mod Items
pub mod Binding
pub mod Form
pub mod Trees
pub mod plain
pub mod laws
pub mod examples
