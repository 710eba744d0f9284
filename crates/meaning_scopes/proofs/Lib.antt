pub mod Finding
pub mod Opening
