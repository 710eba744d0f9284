pub mod Above
pub mod Labels
