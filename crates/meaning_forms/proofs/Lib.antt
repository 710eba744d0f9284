pub mod Slots
pub mod Knowledge
pub mod Effects
pub mod Rows
pub mod Fronts
pub mod Making
pub mod Acting
pub mod Deriving
