pub mod Objects
pub mod Callees
pub mod Definitions
pub mod Carried
pub mod MemberPaths
pub mod laws
pub mod examples
