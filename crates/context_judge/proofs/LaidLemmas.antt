-- A unit that is laid is laid under any names.
use Rattle.std.proofs.Common.{◌≡◌, ℕ, ◌-◌, Bool, true, false, inl, inr, List, [], ◌∷◌, Option, Some, None, map, nat_lt, option_map, slice_get, if◌then◌else◌, refl, sym, ap, subst, ◌∙◌, arith}
use Rattle.std.specs.Option.{option_and_then}
use Rattle.std.proofs.lemmas.List.{length-map}
use Rattle.std.proofs.lemmas.Option.{none-some, same_Some, slice_get-map, slice_get_cases}
use Rattle.meaning_tree.specs.Trees.{Tree, Node, Parts, NoParts, Part}
use Rattle.meaning_tree.specs.Nodes.{TreeNode, NodeList, ChildrenStandBefore, StandsFor, StandFor}
use Rattle.meaning_tree.specs.LookUps.{child_at}
use Rattle.meaning_tree.specs.Listed.{renamed_node, renamed_list}
use Rattle.meaning_tree.specs.Laid.{size_of, sizes_of, IsLaid, IsWithin, itself, in_child}
use Rattle.meaning_tree.proofs.Renaming.{stand_before-renamed}
use Rattle.meaning_typing.specs.laws.Surroundings.{IsLaidUnit}

module _ {N M : Type 0} (renaming : N → M) where
  -- a node under its new name is one of the list
  node_before : (nodes : List (TreeNode N)) (place : ℕ) (node : TreeNode M) → slice_get (map (renamed_node renaming) nodes) place ≡ Some node
      → (own : TreeNode N) × (slice_get nodes place ≡ Some own) × (renamed_node renaming own ≡ node)
  node_before nodes place node is =
      elim (slice_get_cases nodes place).1 [
        | inl found ↦
            (found.0, found.2, same_Some (renamed_node renaming found.0) node (sym (slice_get-map (renamed_node renaming) nodes place ∙ ap (option_map (renamed_node renaming)) found.2) ∙ is))
        | inr past ↦ absurd (none-some node (sym (slice_get-map (renamed_node renaming) nodes place ∙ ap (option_map (renamed_node renaming)) past.1) ∙ is))
      ]

  -- children are looked up alike, by whether the handle is before the list
  child_by : (is_before : Bool) (found : Option (TreeNode N)) (place : ℕ)
      → option_and_then (λ (node : TreeNode M). slice_get node.children place) (if is_before then None else option_map (renamed_node renaming) found)
      ≡ option_and_then (λ (node : TreeNode N). slice_get node.children place) (if is_before then None else found)
  child_by true found place = refl
  child_by false None place = refl
  child_by false (Some node) place = refl

  module _ (list : NodeList N) where
    mutual
      -- a tree under the new names is one of the list, of the same size
      tree_before : (handle : ℕ) (tree : Tree M) → StandsFor (renamed_list renaming list) handle tree
          → (own : Tree N) × StandsFor list handle own × (size_of own ≡ size_of tree)
      tree_before handle (Node kind token name number parts) stands =
          let found = node_before list.nodes (handle - list.first) _ stands.1.1 in
          let children = ap (λ (node : TreeNode M). node.children) found.2 in
          let own = parts_before found.0.children parts (subst (λ (children : List (ℕ × ℕ)). StandFor (renamed_list renaming list) children parts) (sym children) stands.2) in
          (Node found.0.kind found.0.token found.0.name found.0.number own.0, (found.0.children, (stands.1.0, found.1), own.1), omega (arith, own.2))

      parts_before : (children : List (ℕ × ℕ)) (parts : Parts M) → StandFor (renamed_list renaming list) children parts
          → (own : Parts N) × StandFor list children own × (sizes_of own ≡ sizes_of parts)
      parts_before [] NoParts stand = (NoParts, tt, refl)
      parts_before [] (Part role tree parts) stand = absurd stand
      parts_before (child ∷ children) NoParts stand = absurd stand
      parts_before (child ∷ children) (Part role tree parts) stand =
          let first = tree_before child.0 tree stand.1 in
          let others = parts_before children parts stand.2 in
          (Part role first.0 others.0, (stand.0, first.1, others.1), omega (arith, first.2, others.2))

    same_child : (parent place : ℕ) → child_at (renamed_list renaming list) parent place ≡ child_at list parent place
    same_child parent place =
        ap (λ (found : Option (TreeNode M)). option_and_then (λ (node : TreeNode M). slice_get node.children place) (if nat_lt parent list.first then None else found))
        (slice_get-map (renamed_node renaming) list.nodes (parent - list.first))
        ∙ child_by (nat_lt parent list.first) (slice_get list.nodes (parent - list.first)) place

    within_before : {root part : ℕ} → IsWithin (renamed_list renaming list) root part → IsWithin list root part
    within_before itself = itself
    within_before (in_child {root} place child is within) = in_child place child (is.0, sym (same_child root place) ∙ is.1) (within_before within)

    within_renamed : {root part : ℕ} → IsWithin list root part → IsWithin (renamed_list renaming list) root part
    within_renamed itself = itself
    within_renamed (in_child {root} place child is within) = in_child place child (is.0, same_child root place ∙ is.1) (within_renamed within)

    laid-renamed : IsLaid list → IsLaid (renamed_list renaming list)
    laid-renamed laid = record {
      runs = λ root part tree stands.
          let own = tree_before root tree stands in
          let run = laid.runs root part own.0 own.1 in (
            λ within. let at = run.0 (within_before within) in (omega (arith, at.0, own.2), at.1),
            λ at. within_renamed (run.1 (omega (arith, at.0, own.2), at.1)),
          );
      parents = λ part from below.
          let one = laid.parents part from (omega (arith, below, length-map list.nodes (renamed_node renaming))) in (
            one.0,
            one.1,
            (one.2.0, same_child one.0 one.1 ∙ one.2.1),
            λ other elsewhere is. one.3 other elsewhere (is.0, sym (same_child other elsewhere) ∙ is.1),
          );
    }

pub laid_under : {N : Type 0} (names : N → List ℕ) (list : NodeList N) → list.first ≡ 0 → IsLaid list → ChildrenStandBefore list
    → IsLaidUnit (map (renamed_node names) list.nodes)
laid_under names list whole laid order = record {
  laid = subst (λ first. IsLaid (record { first = first; nodes = map (renamed_node names) list.nodes })) whole (laid-renamed names list laid);
  ordered =
      subst (λ first. ChildrenStandBefore (record { first = first; nodes = map (renamed_node names) list.nodes })) whole (stand_before-renamed names list order);
}
