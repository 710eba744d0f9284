pub mod Context
pub mod Cursor
pub mod Front
pub mod Remaining
pub mod Seen
pub mod Spellings
pub mod Table
