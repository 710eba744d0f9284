mod Written
mod Told
mod Spellings
pub mod Balance
mod ContextsListed
pub mod Delivered
mod Completions
pub mod JudgedListings
pub mod Judgements
pub mod LaidLemmas
pub mod Replies
pub mod Existence
pub mod ShapesOfReplies
pub mod WholeListings
