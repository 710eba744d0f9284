pub mod Everywhere
pub mod Apart
pub mod Taking
pub mod Fitting
pub mod Beginning
