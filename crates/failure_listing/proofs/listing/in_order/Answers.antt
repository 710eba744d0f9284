-- The sort is by rank, and stable.
use Rattle.std.proofs.Common.{◌∙◌, All, Contains, List, ap, map, None, rules, subst}
use Rattle.std.proofs.lemmas.List.Elements.{All-contains_itself, All-same}
use Rattle.std.proofs.lemmas.List.Sorted.{All-permutation, answers_always}
use Rattle.sparse_model.specs.declared.failure.Failure.{Failure}
use Rattle.meaning_warnings.specs.Listing.{IsListing}
use Rattle.failure_listing.specs.Ranks.{kept_behind, rank_of}
use Rattle.failure_listing.proofs.OrderLemmas.{all-kept, lists}
use Rattle.failure_listing.proofs.listing.in_order.Goals as goal

pub returns-clause-lists : goal.returns-clause-lists
returns-clause-lists c seen keeps =
    subst (λ (found : List Failure). IsListing (map seen found) (map seen c.from_vec.result))
    (c.in_ok-sorted.ensures.items ∙ c.as_slice.ensures)
    (lists seen keeps c.in_ok-sorted.sorted.items c.sort_by_key.new.self.items c.from_vec.result
    (c.in_ok-sort_by_key.ensures.sorted rank_of (answers_always _ _ _ (λ f a r g h. search rules)))
    (c.sort_by_key.ensures.stable rank_of (answers_always _ _ _ (λ f a r g h. search rules)))
    (c.from_vec.ensures ∙ c.in_ok-kept.ensures ∙ ap (kept_behind None) c.as_slice-2.ensures.value))

pub returns-clause-found : goal.returns-clause-found
returns-clause-found c =
    let sorted = c.sort_by_key.new.self.items in
    subst (λ (found : List Failure). All (Contains found) c.from_vec.result) (c.in_ok-sorted.ensures.items ∙ c.as_slice.ensures)
    (All-same (Contains c.in_ok-sorted.sorted.items) c.from_vec.result (kept_behind None sorted)
    (c.from_vec.ensures ∙ c.in_ok-kept.ensures ∙ ap (kept_behind None) c.as_slice-2.ensures.value)
    (all-kept (Contains c.in_ok-sorted.sorted.items) sorted
    (All-permutation (Contains c.in_ok-sorted.sorted.items) c.in_ok-sorted.sorted.items sorted c.sort_by_key.ensures.permutation
    (All-contains_itself c.in_ok-sorted.sorted.items))))
