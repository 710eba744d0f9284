pub mod ValueLemmas
pub mod AggregateLemmas
pub mod MarkingLemmas
pub mod MemberLemmas
pub mod OffsetLemmas
pub mod WalkLemmas
