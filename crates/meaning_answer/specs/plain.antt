-- The plain programs beside the definitions.
pub mod Judging
pub mod Replying
