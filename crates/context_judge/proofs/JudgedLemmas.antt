-- What is asked of a unit holds of one that was judged, and what is found of its nodes is found of the unit.
use Rattle.std.proofs.Common.{◌≡◌, ◌≤◌, ◌^◌, List, length, sym, ap, subst, ◌∙◌, arith}
use Rattle.std.proofs.lemmas.List.{length-map}
use Rattle.sparse_model.specs.declared.ids.NameId.{NameId}
use Rattle.meaning_tree.specs.Nodes.{NodeList, ChildrenStandBefore}
use Rattle.meaning_tree.specs.Laid.{IsLaid}
use Rattle.meaning_typing.specs.Facts.{Fact}
use Rattle.meaning_typing.specs.Rows.{Row}
use Rattle.meaning_typing.specs.Surroundings.{Surrounding}
use Rattle.meaning_typing.proofs.Surroundings.{surroundings_are_unique}
use Rattle.meaning_units.specs.WholeRows.{facts_of}
use Rattle.meaning_control.specs.Nodes.{JudgedUnit}
use Rattle.meaning_contexts.specs.Units.{judged_of}
use Rattle.decl_judge.specs.Units.{named_node, nodes_of}
use Rattle.node_facts.specs.Facts.{name_seen, node_seen, nodes_seen}
use Rattle.node_surroundings.specs.declared.surrounding.Surrounding.{Surrounding as KeptSurrounding}
use Rattle.node_surroundings.specs.Seen.{AreSurroundingsOf, surroundings_seen}
use Rattle.type_judge.specs.Enclosing.{AreEnclosings}
use Rattle.type_judge.specs.Kept.{AreObjects}
use Rattle.linear_code.specs.Cells.{KnowsTokens}
use Rattle.linear_code.specs.Known.{judged_unit}
use Rattle.linear_code.specs.Passed.{KnowsLists}
use Rattle.judged_control.specs.Judged.{IsJudged, JudgedNodes, known_of_nodes}
use Rattle.type_judge.specs.declared.judging.Judged.{Judged}
use Rattle.type_judge.specs.Judging.{HasTypeIds, IsJudgedSo}
use Rattle.context_judge.specs.Asked.{IsReady}
use Rattle.context_judge.proofs.LaidLemmas.{laid_under}
use Rattle.context_judge.proofs.ListLemmas.{lists_declare_nothing}

module _ (unit : NodeList NameId) (whole : unit.first ≡ 0) (laid : IsLaid unit) (order : ChildrenStandBefore unit) (judged : Judged)
    (is : IsJudgedSo (nodes_of unit) judged) (surroundings : List KeptSurrounding) (stand : AreSurroundingsOf unit surroundings) where
  -- there is one list of surroundings
  same-surroundings : is.surroundings ≡ surroundings_seen surroundings
  same-surroundings =
      surroundings_are_unique (nodes_of unit) is.surroundings (surroundings_seen surroundings) (laid_under name_seen unit whole laid order)
      is.are_surroundings (stand name_seen)

  abbrev kept : JudgedNodes
  kept = record { unit = unit; surroundings = surroundings; types = judged.types; facts = judged.facts }

  as-many : length judged.facts ≡ length unit.nodes
  as-many =
      sym (length-map judged.facts (node_seen judged.types)) ∙ ap (λ (facts : List Fact). length facts) is.known
      ∙ length-map is.rows (λ (row : Row). row.fact) ∙ is.are_rows.all ∙ length-map unit.nodes named_node

  objects-kept : AreObjects (nodes_of unit) (surroundings_seen surroundings) (nodes_seen judged.types judged.facts) judged.objects
  objects-kept =
      subst (λ (now : List Surrounding). AreObjects (nodes_of unit) now (nodes_seen judged.types judged.facts) judged.objects) same-surroundings
      (subst (λ (facts : List Fact). AreObjects (nodes_of unit) is.surroundings facts judged.objects) (sym is.known) is.objects)

  pub is-judged : (enclosings : _) → AreEnclosings (nodes_of unit) (surroundings_seen surroundings) enclosings
      → length unit.nodes ≤ 2 ^ 32 → HasTypeIds judged → IsJudged kept enclosings judged.objects
  is-judged enclosings are few ids = record {
    whole = whole;
    few = omega (arith, few, as-many);
    ids = ids.facts;
    enclosings = are;
    objects = objects-kept;
  }

  pub is-ready : KnowsTokens (nodes_of unit) → IsReady unit (known_of_nodes kept)
  is-ready tokens = record {
    whole = whole;
    laid = laid;
    lists =
        subst (KnowsLists (nodes_of unit)) (sym is.known) (lists_declare_nothing (nodes_of unit) is.surroundings is.rows is.are_rows);
    tokens = tokens;
  }

  -- by what is kept, as by what is known
  pub as-known : (Holds : JudgedUnit → Type 0) → Holds (judged_unit unit (known_of_nodes kept))
      → Holds (judged_of (nodes_of unit) is.surroundings (facts_of is.rows))
  as-known Holds holds =
      subst (λ (now : List Surrounding). Holds (judged_of (nodes_of unit) now (facts_of is.rows))) (sym same-surroundings)
      (subst (λ (facts : List Fact). Holds (judged_of (nodes_of unit) (surroundings_seen surroundings) facts)) is.known holds)
