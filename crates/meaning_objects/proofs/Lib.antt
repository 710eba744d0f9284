pub mod Sharing
pub mod Callees
pub mod Definitions
pub mod MemberPaths
