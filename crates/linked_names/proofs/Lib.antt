mod Walks
mod FormLemmas
mod PassingLemmas
mod WitnessLemmas
mod JoinLemmas
pub mod GrowthLemmas
mod KeptLemmas
mod DeclarationLemmas
mod IndexLemmas
mod TypedefLemmas
mod CarrierLemmas
mod CarriedLemmas
mod CarriedIndexLemmas
mod NodeLemmas
