pub mod FindLemmas
pub mod StackLemmas
