-- The trees of a list are those for which its nodes stand.
use Rattle.std.proofs.Common.{◌≡◌, ℕ, ◌-◌, ◌<◌, ◌≤◌, List, [], ◌∷◌, ◌++◌, length, slice_get, Some, All, ⊎_elim, refl, sym, ap, subst, ◌∙◌, arith, append-nil, append_assoc}
use Rattle.std.proofs.lemmas.Bool.{cases_lt}
use Rattle.std.proofs.lemmas.List.{length-append}
use Rattle.std.proofs.lemmas.List.Elements.{All-head, All-tail}
use Rattle.meaning_tree.specs.Trees.{SyntaxTree}
use Rattle.meaning_tree.specs.Nodes.{TreeNode, NodeList, HasNode, StandsFor, StandFor, ChildrenStandBefore}
use Rattle.meaning_tree.specs.Listed.{tree_at, parts_at, tree_over, trees_from, trees_of}
use Rattle.meaning_tree.proofs.Listing.{tree_at-stays, tree_at-next}

-- the node behind others in a list
slice_get-seam : {X : Type 0} (front : List X) (x : X) (back : List X) → slice_get (front ++ x ∷ back) (length front) ≡ Some x
slice_get-seam [] x back = refl
slice_get-seam (y ∷ front) x back = slice_get-seam front x back

-- each child stands for its tree
abbrev Stand : NodeList (List ℕ) → List SyntaxTree → (end : ℕ) → Type 0
Stand list trees end = (handle : ℕ) → handle < end → StandsFor list handle (tree_at trees handle)

children_stand : (list : NodeList (List ℕ)) (trees : List SyntaxTree) (end : ℕ) → Stand list trees end → (children : List (ℕ × ℕ))
    → All (λ child. (list.first ≤ child.0) × (child.0 < end)) children → StandFor list children (parts_at trees children)
children_stand list trees end stand [] below = tt
children_stand list trees end stand (child ∷ children) below =
    let one = All-head (λ (child : ℕ × ℕ). (list.first ≤ child.0) × (child.0 < end)) child children below in
    let rest = All-tail (λ (child : ℕ × ℕ). (list.first ≤ child.0) × (child.0 < end)) child children below in
    (refl, stand child.0 one.1, children_stand list trees end stand children rest)

module _ (list : NodeList (List ℕ)) (first : list.first ≡ 0) (order : ChildrenStandBefore list) where
  -- one more node whose tree stands
  stand_more : (done nodes : List (TreeNode (List ℕ))) (node : TreeNode (List ℕ)) (trees : List SyntaxTree)
      → list.nodes ≡ done ++ node ∷ nodes → length trees ≡ length done → Stand list trees (length done)
      → Stand list (trees ++ tree_over trees node ∷ []) (length (done ++ node ∷ []))
  stand_more done nodes node trees is same stand handle below =
      ⊎_elim
      (λ (before : handle < length done).
      subst (λ tree. StandsFor list handle tree) (sym (tree_at-stays trees (tree_over trees node ∷ []) handle (omega (arith, before, same)))) (stand handle before))
      (λ (at_least : length done ≤ handle).
      let here : length done ≡ handle = omega (arith, at_least, below, length-append done (node ∷ [])) in
      let found : slice_get list.nodes (handle - list.first) ≡ Some node =
      ap (slice_get list.nodes) (omega (arith, first, here)) ∙ ap (λ nodes. slice_get nodes (length done)) is ∙ slice_get-seam done node nodes in
      let has : HasNode list handle node = (omega (arith, first), found) in
      subst (λ tree. StandsFor list handle tree) (sym (tree_at-next trees (tree_over trees node) handle (same ∙ here))) (
        node.children,
        has,
        children_stand list trees (length done) stand node.children
            (subst (λ end. All (λ (child : ℕ × ℕ). (list.first ≤ child.0) × (child.0 < end)) node.children) (sym here) (order handle node has)),
      ))
      (cases_lt handle (length done))

  stand_from : (done nodes : List (TreeNode (List ℕ))) (trees : List SyntaxTree) → list.nodes ≡ done ++ nodes → length trees ≡ length done
      → Stand list trees (length done) → Stand list (trees_from trees nodes) (length list.nodes)
  stand_from done [] trees is same stand handle below = stand handle (omega (arith, below, ap length (is ∙ append-nil done)))
  stand_from done (node ∷ nodes) trees is same stand handle below =
      stand_from (done ++ node ∷ []) nodes (trees ++ tree_over trees node ∷ []) (is ∙ sym (append_assoc done (node ∷ []) nodes))
      (omega (arith, same, length-append trees (tree_over trees node ∷ []), length-append done (node ∷ [])))
      (stand_more done nodes node trees is same stand) handle below

  -- each node stands for its tree
  pub listed_stand : (handle : ℕ) → handle < length list.nodes → StandsFor list handle (tree_at (trees_of list) handle)
  listed_stand = stand_from [] list.nodes [] refl refl (λ handle below. absurd (omega (arith, below)))
