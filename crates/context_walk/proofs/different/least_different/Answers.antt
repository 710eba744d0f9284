-- Points in their order are those that were met.
use Rattle.std.proofs.Common.{List, rules, sym, subst}
use Rattle.std.specs.List.Sorted.{IsNonDecreasingBy, IsPermutation}
use Rattle.std.proofs.lemmas.List.Sorted.{IsNonDecreasingBy-from_sort_by_key}
use Rattle.meaning_paths.specs.ContextRules.{IsLeast}
use Rattle.context_walk.specs.declared.different.Met.{Met}
use Rattle.context_walk.specs.Passed.{passed_seen}
use Rattle.context_walk.specs.Scans.{ConflictIn, DifferIn, SeveralIn}
use Rattle.context_walk.specs.Met.{mets_of, place_of}
use Rattle.context_walk.proofs.MetLemmas.{least-conflict}
use Rattle.context_walk.proofs.ScanLemmas.{least-either}
use Rattle.context_walk.proofs.different.least_different.Goals as goal

pub least_conflict-requires : goal.least_conflict-requires
least_conflict-requires c =
    subst (IsNonDecreasingBy place_of) (sym c.deref.ensures.value)
    (IsNonDecreasingBy-from_sort_by_key place_of _ c.sort_unstable_by_key.ensures.sorted (λ a r q k. search rules))

pub returns : goal.returns
returns c =
    let passed = passed_seen c.args.passed.now in
    let moved : IsPermutation (mets_of passed) c.deref.result.now =
    subst (IsPermutation (mets_of passed)) (sym c.deref.ensures.value)
    (subst (λ (met : List Met). IsPermutation met c.sort_unstable_by_key.new.self.items) c.in_ok-met.ensures c.sort_unstable_by_key.ensures.permutation)
    in
    subst (IsLeast (DifferIn passed)) (sym c.lower.ensures)
    (least-either (SeveralIn passed) (ConflictIn passed) c.least_several.result c.least_conflict.result c.least_several.ensures
    (least-conflict passed c.deref.result.now moved c.least_conflict.result c.least_conflict.ensures))
