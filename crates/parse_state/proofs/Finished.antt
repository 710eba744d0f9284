-- The only tree that is left is that of the last node.
use Rattle.std.proofs.Common.{◌≡◌, ℕ, ◌+◌, ◌-◌, ◌<◌, List, [], ◌∷◌, map, reverse, length, refl, sym, ap, subst, ◌∙◌, arith}
use Rattle.std.proofs.lemmas.List.{length-map, reverse-reverse}
use Rattle.meaning_tree.specs.Trees.{SyntaxTree}
use Rattle.meaning_tree.specs.Nodes.{NodeList, end_of, ChildrenStandBefore, StandsFor}
use Rattle.meaning_tree.specs.Listed.{renamed_node, tree_at}
use Rattle.meaning_tree.specs.Laid.{IsLaid}
use Rattle.meaning_tree.specs.Runs.{IsRun}
use Rattle.meaning_tree.proofs.ListedStand.{listed_stand}
use Rattle.meaning_tree.proofs.Lying.{run_is_laid}
use Rattle.meaning_tree.proofs.Renaming.{stand_before-renamed}
use Rattle.meaning_grammar.specs.Sorts.{ATree}
use Rattle.meaning_derivation.specs.Values.{TreeValue, sorts_of}
use Rattle.sparse_model.specs.declared.ids.NameId.{NameId}
use Rattle.c_tokens.specs.Seen.{text_of}
use Rattle.parse_state.specs.declared.value.Value.{Value}
use Rattle.parse_state.specs.declared.value.Value.TheVariants.{Word, Tree}
use Rattle.parse_state.specs.declared.value.Value.TheVariants as kinds
use Rattle.parse_state.specs.Finished.{IsOnlyTreeOf, spelled}
use Rattle.parse_state.specs.Lying.{AreStacked}
use Rattle.parse_state.specs.Seen.{value_of, values_of, spelled_trees}

-- a stack of one tree
only_value : (names : List (List ℕ)) (trees : List SyntaxTree) (top_first : List Value) → sorts_of (map (value_of names trees) top_first) ≡ ATree ∷ []
    → (handle : ℕ) × (top_first ≡ Tree handle ∷ [])
only_value names trees [] is = absurd (cc is)
only_value names trees (Word token name ∷ rest) is = absurd (cc is)
only_value names trees (kinds.List children ∷ rest) is = absurd (cc is)
only_value names trees (Tree handle ∷ []) is = (handle, refl)
only_value names trees (Tree handle ∷ other ∷ rest) is = absurd (cc is)

module _ (names : List (List ℕ)) (list : NodeList NameId) (stack : List Value) (first : list.first ≡ 0) (laid : AreStacked list stack list.first (end_of list))
    (alone : sorts_of (values_of names list stack) ≡ ATree ∷ []) where
  root : (handle : ℕ) × (stack ≡ Tree handle ∷ [])
  root =
      let found = only_value names (spelled_trees names list) (reverse stack) alone in
      (found.0, sym (reverse-reverse stack) ∙ ap reverse found.1)

  whole : IsRun list list.first root.0 × (root.0 + 1 ≡ end_of list)
  whole = subst (λ (values : List Value). AreStacked list values list.first (end_of list)) root.1 laid

  pub unit_is_laid : IsLaid list
  unit_is_laid = run_is_laid list root.0 (sym whole.1) whole.0

  pub unit_is_tree : ChildrenStandBefore list → IsOnlyTreeOf (spelled names list) (values_of names list stack)
  unit_is_tree order tree is =
      let names_of : NameId → List ℕ = text_of names in
      let same : length (map (renamed_node names_of) list.nodes) ≡ length list.nodes = length-map list.nodes (renamed_node names_of) in
      let last = whole.1 in
      let here : root.0 ≡ end_of (spelled names list) - 1 = omega (arith, last, same) in
      let below : root.0 < length (map (renamed_node names_of) list.nodes) = omega (arith, last, same, first) in
      let shown : tree_at (spelled_trees names list) root.0 ≡ tree = tree_shown tree is in (
        omega (arith, below),
        subst (λ (handle : ℕ). StandsFor (spelled names list) handle tree) here
            (subst (λ (one : SyntaxTree). StandsFor (spelled names list) root.0 one) shown
            (listed_stand (spelled names list) first (stand_before-renamed names_of list order) root.0 below)),
      )
    where
      only : {first second : SyntaxTree} → TreeValue first ∷ [] ≡ TreeValue second ∷ [] → first ≡ second
      only same = cc same

      tree_shown : (tree : SyntaxTree) → values_of names list stack ≡ TreeValue tree ∷ [] → tree_at (spelled_trees names list) root.0 ≡ tree
      tree_shown tree is = only (sym (ap (values_of names list) root.1) ∙ is)
