-- Failures that are sorted, each once.
use Rattle.std.specs.Prelude.{◌≡◌, ℕ, Bool, false, List, [], ◌∷◌, Option, Some, None, if◌then◌else◌}
use Rattle.std.specs.declared.cmp.Ordering.{Ordering}
use Rattle.std.specs.Ordering.{ordering_then, nat_cmp, is_eq}
use Rattle.vocabulary.specs.Rules.{rule_number}
use Rattle.sparse_model.specs.declared.failure.Failure.{Failure}
use Rattle.meaning_operands.specs.Failures as meaning

-- by what failures are ordered, and the order
abbrev pub rank_of : Failure → ℕ × ℕ × ℕ
rank_of failure = (failure.token, rule_number failure.rule, failure.part)

abbrev pub rank_order : Failure → Failure → Ordering
rank_order failure other =
    ordering_then (ordering_then (nat_cmp (rank_of failure).0 (rank_of other).0) (nat_cmp (rank_of failure).1 (rank_of other).1))
    (nat_cmp (rank_of failure).2 (rank_of other).2)

-- however types and names are seen, a failure is seen with what orders it
pub record KeepsRank (seen : Failure → meaning.Failure) : Type 0 where
  pub token : (failure : Failure) → (seen failure).token ≡ failure.token
  pub rule : (failure : Failure) → (seen failure).rule ≡ failure.rule
  pub part : (failure : Failure) → (seen failure).part ≡ failure.part

-- they agree in all three
abbrev pub are_one : Failure → Failure → Bool
are_one failure other = is_eq (rank_order failure other)

-- behind the last one that was kept, without those that are one with the kept one before them
abbrev pub kept_behind : Option Failure → List Failure → List Failure
kept_behind last [] = []
kept_behind None (failure ∷ failures) = failure ∷ kept_behind (Some failure) failures
kept_behind (Some last) (failure ∷ failures) =
    if are_one last failure then kept_behind (Some last) failures else failure ∷ kept_behind (Some failure) failures

-- it is one with the last one that was kept
abbrev pub is_repeated : Option Failure → Failure → Bool
is_repeated None failure = false
is_repeated (Some last) failure = are_one last failure
