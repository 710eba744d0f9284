pub mod Conditions
pub mod Definitions
pub mod Directives
pub mod Groups
pub mod Headers
pub mod Lines
pub mod Made
pub mod PartEnds
