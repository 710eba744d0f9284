pub mod Trees
pub mod Elements
pub mod Order
pub mod MixedSpaces
pub mod Pointers
pub mod Failing
pub mod Statements
pub mod Units
