pub mod LeastLemmas
pub mod SpreadLemmas
pub mod ReachLemmas
pub mod PassedLemmas
pub mod ScanLemmas
pub mod MetLemmas
pub mod FlowLemmas
