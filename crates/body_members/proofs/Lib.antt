pub mod AlignmentLemmas
pub mod EntryLemmas
pub mod MemberLemmas
pub mod PackedLemmas
pub mod TypeLemmas
