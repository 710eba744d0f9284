-- Worked examples.
pub mod Objects
pub mod Carried
pub mod MemberPaths
