pub mod Placed
pub mod Sizes
pub mod Standing
pub mod Behind
pub mod Naming
pub mod Numbers
pub mod Linking
