pub mod Heights
pub mod Tellings
pub mod Children
pub mod Known
pub mod Bodies
pub mod Units
