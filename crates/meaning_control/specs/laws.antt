-- What is proved of the definitions.
pub mod Cells
pub mod Flows
pub mod Changes
pub mod Listing
