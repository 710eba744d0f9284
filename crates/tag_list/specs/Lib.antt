pub mod Chain
pub mod Tagged
pub mod TagList
