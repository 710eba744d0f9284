-- What was found of an initializer is its outcome.
use Rattle.std.proofs.Common.{◌≡◌, ℕ, Bool, List, [], ◌∷◌, ◌++◌, map, Some, None, option_map, refl, sym, ap, subst, ◌∙◌}
use Rattle.sparse_model.specs.declared.failure.Failure.{Failure}
use Rattle.sparse_model.specs.declared.ids.TypeId.{TypeId}
use Rattle.meaning_typing.specs.Facts.{Fact}
use Rattle.meaning_typing.specs.Units.{UnitNodes}
use Rattle.meaning_initializers.specs.Parts.{Aggregates}
use Rattle.meaning_initializers.specs.Plans.{Leaf, Refusal}
use Rattle.meaning_initializers.specs.Filling.{completed, outcome_of}
use Rattle.meaning_initializers.specs.Reading.{initializer_failures, refusal_told}
use Rattle.c_types.specs.Table.{TypeTable, type_at}
use Rattle.node_facts.specs.Growing.{TypesJoin}
use Rattle.expression_rows.specs.declared.row.Broken.{Broken}
use Rattle.expression_rows.specs.Arguments.{Appends}
use Rattle.expr_judge.proofs.GrowthLemmas.{appended_later}
use Rattle.expr_judge.proofs.GrowthLemmas.{appended_behind}
use Rattle.initializer_levels.specs.declared.plan.Plan.{Plan}
use Rattle.initializer_levels.specs.declared.met.Placed.{Placed}
use Rattle.initializer_levels.specs.Met.{found_with}
use Rattle.initializer_levels.specs.Turns.{nothing_found}
use Rattle.init_judge.specs.declared.judging.InitPlan.{InitPlan}
use Rattle.init_judge.specs.Judging.{IsInitializedBy, IsRefusedFor}
use Rattle.init_judge.specs.declared.fault.InitFault.TheVariants as faults
use Rattle.init_judge.specs.Leaves.{leaf_seen}
use Rattle.init_judge.specs.Said.{HasJudged, broken_of}
use Rattle.init_judge.specs.Whole.{IsReceived}
use Rattle.init_judge.proofs.SaidLemmas.{leaves_later}

-- nothing is refused where nothing is told
no_refusals : (refusals : List Refusal) → option_map broken_of (refusal_told refusals) ≡ None → refusals ≡ []
no_refusals [] is = refl
no_refusals (refusal ∷ refusals) is = absurd (cc is)

module _ (aggregates : Aggregates) (is_static : Bool) (nodes : UnitNodes) (facts : List Fact) (old between : TypeTable) (object : TypeId) (init : ℕ) (plan : Plan) (own : List Failure) (leaves : List Placed) where
  pub refused_for : (broken : Broken) → IsReceived aggregates is_static old nodes facts object init plan
      → HasJudged nodes facts old between plan.paths [] own leaves (Some broken) (found_with nodes facts is_static old plan.paths nothing_found plan.findings.items)
      → IsRefusedFor aggregates is_static nodes facts (type_at old object) init (faults.Constraint broken)
  refused_for broken received judged =
      (outcome_of (type_at old object) received.0, (received.0, received.1, refl), received.2.broken ∙ sym judged.broken)

  pub initialized_by : (new : TypeTable) (before after : List Failure) (answer : InitPlan) → IsReceived aggregates is_static old nodes facts object init plan
      → HasJudged nodes facts old between plan.paths [] own leaves None (found_with nodes facts is_static old plan.paths nothing_found plan.findings.items)
      → TypesJoin between new → TypesJoin old new
      → answer.leaves.items ≡ leaves → answer.paths ≡ plan.paths → type_at new answer.complete ≡ completed (type_at old object) plan.length → after ≡ before ++ own
      → IsInitializedBy aggregates is_static nodes facts (type_at old object) init new before after answer
  initialized_by new before after answer received judged join joins leaves_are paths_are complete appended =
      let meant = received.0 in
      let same : judged_leaves ≡ meant.leaves = judged.leaves ∙ sym received.2.leaves in
      record {
        outcome = outcome_of (type_at old object) meant;
        initializes = (meant, received.1, refl);
        leaves =
            ap (λ (ls : List Placed). map (leaf_seen new answer.paths) ls) leaves_are
            ∙ (ap (λ (ps : List (List ℕ)). map (leaf_seen new ps) leaves) paths_are
            ∙ (leaves_later old new joins plan.paths leaves judged.known ∙ same));
        complete = complete ∙ ap (completed (type_at old object)) (sym received.2.len);
        unrefused = no_refusals meant.refusals (received.2.broken ∙ sym judged.broken);
        failures =
            subst (Appends new before after) (ap (initializer_failures nodes facts) (sym received.2.leaves))
            (appended_behind new before own after _ (appended_later between new join [] own _ judged.failures) appended);
      }
    where
      judged_leaves : List Leaf
      judged_leaves = map (leaf_seen old plan.paths) leaves
