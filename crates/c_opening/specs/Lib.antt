pub mod Opening
pub mod Absent
