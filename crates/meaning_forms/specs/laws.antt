-- What is proved of the trees that units derive.
pub mod Forms
pub mod NodeCounts
