pub mod LentValue
pub mod Region
