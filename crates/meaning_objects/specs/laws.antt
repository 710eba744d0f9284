-- What is proved of the definitions.
pub mod Objects
pub mod Callees
pub mod Definitions
pub mod MemberPaths
