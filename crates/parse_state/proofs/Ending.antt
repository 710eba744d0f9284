-- What is left in the end stands for the tree that was read.
use Rattle.std.proofs.Common.{◌≡◌, ℕ, ◌+◌, ◌-◌, ◌<◌, ◌≤◌, List, [], ◌∷◌, length, slice_get, Option, Some, None, option_map, All, refl, sym, subst, ◌∙◌, arith}
use Rattle.std.proofs.lemmas.List.{length-map}
use Rattle.std.proofs.lemmas.Option.{same_Some, slice_get-map}
use Rattle.meaning_tree.specs.Trees.{SyntaxTree}
use Rattle.meaning_tree.specs.Nodes.{TreeNode, NodeList, end_of, ChildrenStandBefore, StandsFor, IsTreeOf}
use Rattle.meaning_tree.specs.Listed.{tree_at, trees_of, renamed_node, renamed_list}
use Rattle.meaning_tree.proofs.ListedStand.{listed_stand}
use Rattle.meaning_derivation.specs.Values.{TreeValue}
use Rattle.sparse_model.specs.declared.ids.NameId.{NameId}
use Rattle.c_tokens.specs.Seen.{text_of}
use Rattle.parse_state.specs.Seen.{spelled_trees}

-- children stand before their parents whatever names are
module _ {N M : Type 0} (renaming : N → M) where
  kept : (list : NodeList N) (handle : ℕ) (node : TreeNode M) (found : Option (TreeNode N)) → slice_get list.nodes (handle - list.first) ≡ found
      → option_map (renamed_node renaming) found ≡ Some node → list.first ≤ handle → ChildrenStandBefore list
      → All (λ child. (list.first ≤ child.0) × (child.0 < handle)) node.children
  kept list handle node None found is from order = absurd (cc is)
  kept list handle node (Some old) found is from order =
      subst (λ (one : TreeNode M). All (λ (child : ℕ × ℕ). (list.first ≤ child.0) × (child.0 < handle)) one.children)
      (same_Some (renamed_node renaming old) node is) (order handle old (from, found))

  pub order-renamed : (list : NodeList N) → ChildrenStandBefore list → ChildrenStandBefore (renamed_list renaming list)
  order-renamed list order handle node has =
      kept list handle node (slice_get list.nodes (handle - list.first)) refl (sym (slice_get-map (renamed_node renaming) list.nodes (handle - list.first)) ∙ has.1) has.0 order

pub ended : (names : List (List ℕ)) (list : NodeList NameId) (handle : ℕ) (tree : SyntaxTree) → list.first ≡ 0 → ChildrenStandBefore list
    → handle + 1 ≡ length list.nodes → TreeValue (tree_at (spelled_trees names list) handle) ∷ [] ≡ TreeValue tree ∷ []
    → IsTreeOf (renamed_list (text_of names) list) tree
ended names list handle tree first order last is =
    let spelled : NodeList (List ℕ) = renamed_list (text_of names) list in
    let count : length spelled.nodes ≡ length list.nodes = length-map list.nodes (renamed_node (text_of names)) in
    let same : tree_at (trees_of spelled) handle ≡ tree = cc in
    let place : handle ≡ end_of spelled - 1 = omega (arith, first, last, count) in (
      omega (arith, last, count),
      subst (λ (at : ℕ). StandsFor spelled at tree) place
          (subst (λ (one : SyntaxTree). StandsFor spelled handle one) same
          (listed_stand spelled first (order-renamed (text_of names) list order) handle (omega (arith, last, count)))),
    )
