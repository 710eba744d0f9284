-- Steps that are taken one by one come to the whole walk.
use Rattle.std.proofs.Common.{◌≡◌, ◌≢◌, ℕ, List, [], ◌∷◌, ◌++◌, All, Option, Some, None, IfSome, map, option_map, refl, sym, ap, ap₂, ◌∙◌, append-nil}
use Rattle.std.proofs.lemmas.List.{append_assoc, map-append}
use Rattle.std.proofs.lemmas.List.Elements.{All-append, All-nil}
use Rattle.vocabulary.specs.declared.node_kind.NodeKind.{NodeKind}
use Rattle.vocabulary.specs.declared.node_kind.NodeKind.TheVariants as kinds
use Rattle.sparse_model.specs.declared.failure.Failure.{Failure}
use Rattle.meaning_types.specs.Types.{TypeTree}
use Rattle.meaning_rules.specs.Rules.{least_broken, lesser}
use Rattle.meaning_typing.specs.Aggregates.{KnownAggregates}
use Rattle.meaning_typing.specs.Facts.{Fact, Expression}
use Rattle.meaning_typing.specs.OffsetRows as meaning
use Rattle.meaning_typing.specs.OffsetRows.{step_to, walk_from}
use Rattle.meaning_typing.specs.Units.{UnitNodes}
use Rattle.c_types.specs.Table.{TypeTable}
use Rattle.node_facts.specs.Growing.{TypesJoin}
use Rattle.node_facts.proofs.GrowthLemmas.{id_later, type_later}
use Rattle.expression_rows.specs.declared.row.Broken.{Broken}
use Rattle.expression_rows.specs.Arguments.{Appends, listed_failure}
use Rattle.expression_rows.specs.Rows.{IsKnownFailure, broken_seen, failure_seen}
use Rattle.expr_judge.specs.Parts.{only_expression}
use Rattle.expr_judge.proofs.GrowthLemmas.{failures_known, failures_later}
use Rattle.expr_judge.proofs.TellingLemmas.{one_known, one_listed}
use Rattle.member_rows.specs.declared.reached.OffsetStep.{OffsetStep}
use Rattle.member_rows.specs.declared.reached.Reached.{Reached}
use Rattle.member_rows.specs.Laws.{LeadsOn}
use Rattle.member_rows.specs.Steps.{IsKnownOffsetStep, IsKnownReached, IsWalked, reached_seen, step_seen, walk_told}
use Rattle.member_rows.proofs.WalkLemmas.{walks_end, walks_go_on}
use Rattle.whole_judge.specs.Walks.{HasWalked, element_of, left_from}

-- before the first step the whole walk is left
pub begun : (table : TypeTable) (found : List Failure) (whole : meaning.Walk) → HasWalked table found found None whole whole
begun table found whole = ([], sym (append-nil found), record { broken = refl; failures = refl; reached = refl }, All-nil (IsKnownFailure table))

-- one step more, behind which types may have joined the table
module _ (aggregates : KnownAggregates) (old new : TypeTable) (join : TypesJoin old new) (before between after : List Failure) (least : Option Broken) where
  pub one_more : (step : meaning.OffsetStep) (rest : List meaning.OffsetStep) (from : meaning.Reached) (all : meaning.Walk)
      (found : OffsetStep) (broken : Option Broken) (reached : Option Reached)
      → step_seen new found ≡ walk_told (step_to aggregates from step) → IsKnownOffsetStep new found
      → option_map broken_seen broken ≡ lesser (option_map broken_seen least) (option_map broken_seen found.broken) → reached ≡ found.reached
      → after ≡ between ++ listed_failure found.failure
      → HasWalked old before between least (walk_from aggregates (step ∷ rest) (Some from)) all
      → HasWalked new before after broken (left_from aggregates new rest reached) all
  one_more step rest from all found broken reached is known lesser_is reached_is appended walked =
      let more = walked.0 in
      let told = step_seen new found in
      let on = walks_go_on aggregates step rest from told (option_map broken_seen least) (map (failure_seen old) more) all is walked.2 in
      let leads = ap (option_map (reached_seen new)) reached_is in
      let failures : map (failure_seen new) (more ++ listed_failure found.failure) ≡ map (failure_seen old) more ++ told.failures =
      map-append (failure_seen new) more (listed_failure found.failure)
      ∙ ap₂ (λ a b. a ++ b) (failures_later old new join more walked.3) (one_listed new found.failure) in (
        more ++ listed_failure found.failure,
        appended ∙ ap (λ l. l ++ listed_failure found.failure) walked.1 ∙ append_assoc before more (listed_failure found.failure),
        record {
          broken = (λ i. lesser (lesser_is i) (least_broken (walk_from aggregates rest (leads i)).broken)) ∙ on.broken;
          failures = (λ i. failures i ++ (walk_from aggregates rest (leads i)).failures) ∙ on.failures;
          reached = (λ i. (walk_from aggregates rest (leads i)).reached) ∙ on.reached;
        },
        All-append (IsKnownFailure new) more (listed_failure found.failure) (failures_known old new join more walked.3) (one_known new found.failure known.failure),
      )

-- from nowhere no step is taken
pub nowhere_left : (aggregates : KnownAggregates) (steps : List meaning.OffsetStep) → walk_from aggregates steps None ≡ meaning.stopped [] []
nowhere_left aggregates [] = refl
nowhere_left aggregates (step ∷ steps) = refl

-- where no step is left, that is the whole walk
module _ (aggregates : KnownAggregates) (table : TypeTable) (before after : List Failure) (broken : Option Broken) (all : meaning.Walk) where
  pub ended : (reached : Option Reached) → HasWalked table before after broken (left_from aggregates table [] reached) all
      → IsWalked table broken reached all × Appends table before after all.failures
  ended None walked =
      let end = walks_end (option_map broken_seen broken) (map (failure_seen table) walked.0) None all walked.2 in
      (record { least = end.0; leads = end.2 }, (walked.0, walked.1, end.1, walked.3))
  ended (Some reached) walked =
      let end = walks_end (option_map broken_seen broken) (map (failure_seen table) walked.0) (Some (reached_seen table reached)) all walked.2 in
      (record { least = end.0; leads = end.2 }, (walked.0, walked.1, end.1, walked.3))

-- Where they have led, over a table that types joined
module _ (old new : TypeTable) (join : TypesJoin old new) where
  pub reached_later : (reached : Reached) → IsKnownReached old reached → reached_seen new reached ≡ reached_seen old reached
  reached_later reached known =
      λ i. record { of = type_later old new join reached.of known i; width = reached.width; bytes = reached.bytes; is_known = reached.is_known }

  pub reached_known : (reached : Reached) → IsKnownReached old reached → IsKnownReached new reached
  reached_known reached known = id_later old new join reached.of known

-- The step of a designator

-- of one that is no member's
pub other_step : (nodes : UnitNodes) (facts : List Fact) (handle : ℕ) (kind : NodeKind) → kind ≢ kinds.MemberDesignator
    → element_of nodes facts handle ≡ meaning.step_of nodes facts handle kind
other_step nodes facts handle kinds.MemberDesignator other = absurd (other refl)
other_step nodes facts handle kind other = refl

-- an index is an expression or nothing
pub element_only : (aggregates : KnownAggregates) (reached : meaning.Reached) (token index : ℕ) (fact : Fact)
    → step_to aggregates reached (meaning.ToElement token index (only_expression fact)) ≡ step_to aggregates reached (meaning.ToElement token index fact)
element_only aggregates reached token index fact = by (meaning.element_in reached.of) fact
  where
    by : (element : Option TypeTree) (fact : Fact)
        → meaning.to_element aggregates token index reached element (only_expression fact) ≡ meaning.to_element aggregates token index reached element fact
    by None fact = refl
    by (Some element) (Expression expression) = refl
    by (Some element) fact = refl
