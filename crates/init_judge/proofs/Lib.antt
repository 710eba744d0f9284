mod StringLemmas
mod RefusalLemmas
mod LeafLemmas
mod SaidLemmas
mod WholeLemmas
mod JudgingLemmas
mod AggregateLemmas
