-- What is answered of a unit, once all its nodes are judged.
use Rattle.std.proofs.Common.{◌≡◌, ℕ, Contains, List, Option, None, Result, IfErr, IsErrAnd, length, option_map, refl, sym, ap, ap₂, subst, ◌∙◌}
use Rattle.std.proofs.lemmas.List.Elements.{All-contains, All-weaker}
use Rattle.std.proofs.lemmas.List.{length-map}
use Rattle.std.proofs.lemmas.Result.{err_from_is_err_and}
use Rattle.vocabulary.specs.declared.limit.LimitKind.TheVariants as limits
use Rattle.sparse_model.specs.declared.ids.NameId.{NameId}
use Rattle.failure_listing.specs.Ranks.{KeepsRank}
use Rattle.meaning_units.specs.WholeRows.{AreRows, facts_of}
use Rattle.meaning_units.specs.WholeRules.{broken_in, failures_in, holds, passed_in, refused}
use Rattle.meaning_operands.specs.Failures as meaning
use Rattle.meaning_rules.specs.Rules.{Judgement, first_refusal, least_broken, least_token}
use Rattle.meaning_warnings.specs.Listing.{IsListing}
use Rattle.meaning_tree.specs.Nodes.{NodeList}
use Rattle.meaning_typing.specs.Facts.{Fact}
use Rattle.meaning_typing.specs.Rows.{Row}
use Rattle.meaning_typing.specs.Surroundings.{Surrounding, AreSurroundings}
use Rattle.meaning_typing.specs.Units.{UnitNodes}
use Rattle.c_types.specs.declared.bodies.Named.{Named}
use Rattle.c_types.specs.Table.{TypeTable}
use Rattle.judged_objects.specs.Kept.{AreObjects}
use Rattle.node_facts.specs.Facts.{node_seen, nodes_seen}
use Rattle.decl_judge.specs.Units.{nodes_of}
use Rattle.expression_rows.specs.Rows.{IsKnownFailure, broken_seen, failure_seen}
use Rattle.expr_judge.specs.Found.{found_seen}
use Rattle.expr_judge.proofs.NodeLemmas.{length-nodes}
use Rattle.node_judge.specs.Known.{table_of}
use Rattle.type_judge.specs.declared.fault.JudgeFault.{JudgeFault}
use Rattle.type_judge.specs.declared.fault.JudgeFault.TheVariants as faults
use Rattle.type_judge.specs.declared.judging.Judged.{Judged}
use Rattle.type_judge.specs.declared.pass.Ending.{Ending}
use Rattle.type_judge.specs.declared.pass.Pass.{Pass}
use Rattle.type_judge.specs.Judging.{HasTypeIds, IsEnded, IsJudgedSo, IsPassOver, IsRefusal, IsRefusedFor, judged_from}
use Rattle.node_judge.specs.NamedTypes.{names_told, renamed}
use Rattle.type_judge.proofs.RenamingLemmas.{all_renamed, failures_renamed, found_renamed, nodes_renamed}

-- what the first refusal says of a unit
refused_as :
    (nodes : UnitNodes) (surroundings : List Surrounding) (rows : List Row) → AreSurroundings nodes surroundings → AreRows nodes surroundings rows
    → (fault : JudgeFault) (refusal : Option Judgement)
    → refusal ≡ first_refusal (least_broken (broken_in nodes rows)) (least_token (passed_in nodes rows))
    → IsRefusal fault refusal → IsRefusedFor nodes fault
refused_as nodes surroundings rows are also (faults.Constraint broken) refusal same is = (surroundings, rows, are, also, refused _ (sym same ∙ is))
refused_as nodes surroundings rows are also (faults.Limit limits.ObjectSize) refusal same is = (surroundings, rows, are, also, refused _ (sym same ∙ is))
refused_as nodes surroundings rows are also (faults.Limit limit) refusal same is = is
refused_as nodes surroundings rows are also faults.Memory refusal same is = absurd is

-- want of memory says nothing of it
pub memory_refused : {T : Type 0} (nodes : UnitNodes) (result : Result T JudgeFault) → IsErrAnd result (λ fault. fault ≡ faults.Memory) → IfErr result (IsRefusedFor nodes)
memory_refused nodes result is =
    let found = err_from_is_err_and result is in
    subst (λ one. IfErr one (IsRefusedFor nodes)) (sym found.1) (subst (IsRefusedFor nodes) (sym found.2) tt)

-- as many nodes are known as were judged
pub known_length : (nodes : UnitNodes) (surroundings : List Surrounding) (count : ℕ) (pass : Pass) → IsPassOver nodes surroundings count pass
    → length pass.known.declarations.facts ≡ count
known_length nodes surroundings count pass over =
    sym (length-map pass.known.declarations.facts (node_seen (table_of pass.known))) ∙ ap (λ (known : List Fact). length known) over.known.facts
    ∙ over.known.next

-- a failure is seen with what orders it
pub found-rank : (table : TypeTable) → KeepsRank (failure_seen table)
found-rank table = record { token = λ f. refl; rule = λ f. refl; part = λ f. refl }

module _ (unit : NodeList NameId) (whole : unit.first ≡ 0) (surroundings : List Surrounding) (are : AreSurroundings (nodes_of unit) surroundings) (pass : Pass)
    (judged : IsPassOver (nodes_of unit) surroundings (length unit.nodes) pass) where
  abbrev table : TypeTable
  table = table_of pass.known

  over : IsPassOver (nodes_of unit) surroundings (length (nodes_of unit)) pass
  over = subst (λ (n : ℕ). IsPassOver (nodes_of unit) surroundings n pass) (sym (length-nodes unit whole)) judged

  -- these are the rows of the unit
  are_all : AreRows (nodes_of unit) surroundings over.rows
  are_all = record { all = over.all; first = over.are_rows }

  refusal-is :
      first_refusal (option_map broken_seen pass.broken) pass.passed
      ≡ first_refusal (least_broken (broken_in (nodes_of unit) over.rows)) (least_token (passed_in (nodes_of unit) over.rows))
  refusal-is = ap₂ first_refusal over.broken over.passed

  pub refused_for : (fault : JudgeFault) → IsRefusal fault (first_refusal (option_map broken_seen pass.broken) pass.passed) → IsRefusedFor (nodes_of unit) fault
  refused_for fault is = refused_as (nodes_of unit) surroundings over.rows are are_all fault _ refusal-is is

  -- once the names of types are told, failures are in order, and objects are gathered
  module _ (after : Pass) (ending : Ending) (ended : IsEnded (nodes_of unit) surroundings pass after ending) where
    abbrev names : List (Named × NameId)
    names = names_told (nodes_of unit) surroundings (length (nodes_of unit))

    abbrev named : TypeTable
    named = renamed table names

    abbrev answer : Judged
    answer = record { types = named; facts = pass.known.declarations.facts; failures = ending.failures; objects = ending.objects }

    -- the answer is told by what is known in the end
    in_the_end : (P : Judged → Type 0) → P answer → P (judged_from after ending)
    in_the_end P was =
        subst (λ facts. P (record { types = table_of after.known; facts = facts; failures = ending.failures; objects = ending.objects })) (sym ended.facts)
        (subst (λ (types : TypeTable). P (record answer { types = types })) (sym ended.types) was)

    known-is : nodes_seen named pass.known.declarations.facts ≡ facts_of over.rows
    known-is = nodes_renamed table names pass.known.declarations.facts ∙ over.known.facts

    pub judged_so : first_refusal (option_map broken_seen pass.broken) pass.passed ≡ None → IsJudgedSo (nodes_of unit) (judged_from after ending)
    judged_so none =
        let are_found : found_seen named pass.found ≡ failures_in (nodes_of unit) surroundings over.rows =
        found_renamed table names pass.found ∙ over.failures in
        in_the_end (IsJudgedSo (nodes_of unit))
        (record {
          surroundings = surroundings;
          rows = over.rows;
          are_surroundings = are;
          are_rows = are_all;
          judgement =
              holds (found_seen named ending.failures) (sym refusal-is ∙ none)
              (subst (λ (all : List meaning.Failure). IsListing all (found_seen named ending.failures)) are_found
              (ended.lists (failure_seen named) (found-rank named)));
          known = known-is;
          names = refl;
          objects = subst (λ (known : List Fact). AreObjects (nodes_of unit) surroundings known ending.objects) known-is (ended.objects named);
        })

    pub judged_ids : HasTypeIds (judged_from after ending)
    judged_ids =
        in_the_end HasTypeIds
        (record {
          facts = all_renamed table names pass.known.declarations.facts over.known.kept.whole.ids;
          failures =
              failures_renamed table names ending.failures
              (All-weaker (Contains pass.found) (IsKnownFailure table)
              (λ failure is. All-contains (IsKnownFailure table) pass.found failure over.ids is) ending.failures ended.found);
        })
