-- Where the runs of the parts of each node fill its own, the nodes are those of the tree as they are written.
use Rattle.std.proofs.Common.{◌≡◌, ℕ, zero, suc, ◌+◌, ◌-◌, ◌<◌, ◌&&◌, Bool, true, false, nat_eq, nat_lt, List, [], ◌∷◌, ◌++◌, length, map, slice_get, Some, All, if◌then◌else◌, refl, sym, ap, ap₂, subst, ◌∙◌, arith}
use Rattle.std.proofs.lemmas.Bool.{eqb-true}
use Rattle.std.proofs.lemmas.List.{length-map}
use Rattle.std.proofs.lemmas.List.Elements.{All-head, All-tail}
use Rattle.std.proofs.lemmas.Option.{same_Some, slice_get_within}
use Rattle.vocabulary.specs.declared.role.Role.{Role}
use Rattle.vocabulary.specs.Roles.{role_of, role_tag}
use Rattle.sparse_model.specs.declared.ids.NameId.{NameId}
use Rattle.tag_list.specs.Tagged.{IsTagged}
use Rattle.meaning_tree.specs.Trees.{SyntaxTree, Node, Parts, NoParts, Part}
use Rattle.meaning_tree.specs.Nodes.{TreeNode, NodeList, end_of, HasNode, StandsFor, StandFor, IsTreeOf}
use Rattle.meaning_tree.specs.Laid.{size_of, sizes_of}
use Rattle.meaning_tree.specs.Listed.{renamed_node}
use Rattle.meaning_unit_nodes.specs.Written.{is_suffix, is_suffix_kind, root_from, children_from, nodes_from, part_nodes_from, nodes_in}
use Rattle.meaning_unit_nodes.proofs.Placed.{ArePlaced, placed-joined, placed-none, placed-one, placed-whole}
use Rattle.meaning_unit_nodes.proofs.Sizes.{nodes-size, parts-size}
use Rattle.meaning_unit_nodes.proofs.Standing.{root_last}
use Rattle.written_units.specs.Filling.{IsFilled, fills, is_suffix_node, start_at, suffix_at}
use Rattle.written_units.specs.Order.{AreWritten}
use Rattle.written_units.proofs.FillingLemmas.{AreFilled}

both_true : (a b : Bool) → (a && b) ≡ true → (a ≡ true) × (b ≡ true)
both_true true b is = (refl, is)
both_true false b is = absurd (cc is)

-- a tag below 4 is that of its role
tag_of_role : (tag : ℕ) → tag < 4 → tag ≡ role_tag (role_of tag)
tag_of_role zero small = refl
tag_of_role (suc zero) small = refl
tag_of_role (suc (suc zero)) small = refl
tag_of_role (suc (suc (suc zero))) small = refl
tag_of_role (suc (suc (suc (suc tag)))) small = absurd (omega (arith, small))

slice_get-mapped : {X Y : Type 0} (f : X → Y) (xs : List X) (place : ℕ) (y : Y) → slice_get (map f xs) place ≡ Some y
    → (x : X) × (slice_get xs place ≡ Some x) × (f x ≡ y)
slice_get-mapped f [] place y is = absurd (cc is)
slice_get-mapped f (first ∷ xs) zero y is = (first, refl, same_Some (f first) y is)
slice_get-mapped f (first ∷ xs) (suc place) y is = slice_get-mapped f xs place y is

module _ (nodes : List (TreeNode NameId)) (starts : List ℕ) (spelled : NameId → List ℕ) where
  abbrev list : NodeList (List ℕ)
  list = record { first = 0; nodes = map (renamed_node spelled) nodes }

  -- what a node is under its id
  kept_node : (handle : ℕ) (seen : TreeNode (List ℕ)) → HasNode list handle seen
      → (node : TreeNode NameId) × (slice_get nodes handle ≡ Some node) × (renamed_node spelled node ≡ seen)
  kept_node handle seen has =
      let same : handle ≡ handle - 0 = omega arith in
      slice_get-mapped (renamed_node spelled) nodes handle seen (ap (slice_get (map (renamed_node spelled) nodes)) same ∙ has.1)

  suffix_seen : (handle : ℕ) (tree : SyntaxTree) → StandsFor list handle tree → suffix_at nodes handle ≡ is_suffix tree
  suffix_seen handle (Node kind token name number parts) stands =
      let kept = kept_node handle _ stands.1 in
      ap is_suffix_node kept.1 ∙ ap (λ (node : TreeNode (List ℕ)). is_suffix_kind node.kind) kept.2

  -- parts whose runs fill the nodes from one handle up to another
  record PartsAreWritten (low high : ℕ) (children : List (ℕ × ℕ)) (parts : Parts (List ℕ)) : Type 0 where
    ends : high ≡ low + sizes_of parts
    handles : children ≡ children_from low parts
    placed : ArePlaced list low (part_nodes_from low parts)

  module _ (low high : ℕ) (child : ℕ × ℕ) (children : List (ℕ × ℕ)) (role : Role) (tree : SyntaxTree) (parts : Parts (List ℕ))
      (kept : role ≡ role_of child.1) (small : child.1 < 4) (root : child.0 ≡ root_from (start_at starts child.0) tree)
      (own : ArePlaced list (start_at starts child.0) (nodes_from (start_at starts child.0) tree))
      (rest : (low high : ℕ) → fills nodes starts low high children ≡ true → PartsAreWritten low high children parts) where
    first_child : (start : ℕ) → start_at starts child.0 ≡ start → child ≡ (root_from start tree, role_tag role)
    first_child start same =
        ap₂ (λ handle tag. (handle, tag)) (root ∙ ap (λ from. root_from from tree) same) (tag_of_role child.1 small ∙ ap role_tag (sym kept))

    own_at : (start : ℕ) → start_at starts child.0 ≡ start → ArePlaced list start (nodes_from start tree)
    own_at start same = subst (λ (from : ℕ). ArePlaced list from (nodes_from from tree)) same own

    behind : (first size : ℕ) (before more : List (TreeNode (List ℕ))) → length before ≡ size → ArePlaced list first before → ArePlaced list (first + size) more
        → ArePlaced list first (before ++ more)
    behind first size before more long front back =
        placed-joined list first before more front (subst (λ (many : ℕ). ArePlaced list (first + many) more) (sym long) back)

    by_suffix : (suffix : Bool)
        → (nat_lt child.0 high
        && (if suffix then nat_eq (child.0 + 1) high && fills nodes starts low (start_at starts child.0) children
        else nat_eq (start_at starts child.0) low && fills nodes starts (child.0 + 1) high children)) ≡ true
        → (high ≡ low + (size_of tree + sizes_of parts))
        × (child ∷ children ≡ (root_from (if suffix then low + sizes_of parts else low) tree, role_tag role) ∷ children_from (if suffix then low else low + size_of tree) parts)
        × ArePlaced list low
        (if suffix then part_nodes_from (if suffix then low else low + size_of tree) parts ++ nodes_from (if suffix then low + sizes_of parts else low) tree
        else nodes_from (if suffix then low + sizes_of parts else low) tree ++ part_nodes_from (if suffix then low else low + size_of tree) parts)
    by_suffix true filled =
        let inner = both_true (nat_eq (child.0 + 1) high) (fills nodes starts low (start_at starts child.0) children) (both_true (nat_lt child.0 high) _ filled).1 in
        let last = eqb-true (child.0 + 1) high inner.0 in
        let others = rest low (start_at starts child.0) inner.1 in
        let begins = others.ends in
        let root_is = root_last (start_at starts child.0) tree in
        let at = root in (
          omega (arith, last, begins, root_is, at),
          ap₂ (λ one more. one ∷ more) (first_child (low + sizes_of parts) begins) others.handles,
          behind low (sizes_of parts) (part_nodes_from low parts) (nodes_from (low + sizes_of parts) tree) (parts-size low parts) others.placed (own_at (low + sizes_of parts) begins),
        )
    by_suffix false filled =
        let inner = both_true (nat_eq (start_at starts child.0) low) (fills nodes starts (child.0 + 1) high children) (both_true (nat_lt child.0 high) _ filled).1 in
        let begins = eqb-true (start_at starts child.0) low inner.0 in
        let others = rest (child.0 + 1) high inner.1 in
        let ends = others.ends in
        let root_is = root_last (start_at starts child.0) tree in
        let at = root in
        let next : child.0 + 1 ≡ low + size_of tree = omega (arith, root_is, at, begins) in (
          omega (arith, ends, next),
          ap₂ (λ one more. one ∷ more) (first_child low begins) (others.handles ∙ ap (λ from. children_from from parts) next),
          behind low (size_of tree) (nodes_from low tree) (part_nodes_from (low + size_of tree) parts) (nodes-size low tree) (own_at low begins)
              (subst (λ (from : ℕ). ArePlaced list from (part_nodes_from from parts)) next others.placed),
        )

  module _ (each : (handle : ℕ) → handle < length nodes → IsFilled nodes starts (start_at starts handle) handle) where
    mutual
      tree_written : (handle : ℕ) (tree : SyntaxTree) → StandsFor list handle tree
          → (handle ≡ root_from (start_at starts handle) tree) × ArePlaced list (start_at starts handle) (nodes_from (start_at starts handle) tree)
      tree_written handle (Node kind token name number parts) stands =
          let start = start_at starts handle in
          let kept = kept_node handle _ stands.1 in
          let filled = each handle (slice_get_within nodes handle kept.0 kept.1) kept.0 kept.1 in
          let children = stands.0 in
          let same : kept.0.children ≡ children = ap (λ (node : TreeNode (List ℕ)). node.children) kept.2 in
          let written = parts_written start handle children parts stands.2
          (subst (λ (some : List (ℕ × ℕ)). fills nodes starts start handle some ≡ true) same filled.0) (subst (λ (some : List (ℕ × ℕ)). All IsTagged some) same filled.1) in
          let own : List (ℕ × ℕ) → TreeNode (List ℕ) = λ some. record { kind = kind; token = token; name = name; number = number; children = some } in
          let has = subst (λ (some : List (ℕ × ℕ)). HasNode list handle (own some)) written.handles stands.1 in
          let at : handle ≡ start + length (part_nodes_from start parts) = written.ends ∙ ap (λ size. start + size) (sym (parts-size start parts)) in (
            written.ends,
            placed-joined list start (part_nodes_from start parts) (own (children_from start parts) ∷ []) written.placed
                (placed-one list (start + length (part_nodes_from start parts)) (own (children_from start parts))
                (subst (λ (place : ℕ). HasNode list place (own (children_from start parts))) at has)),
          )

      parts_written : (low high : ℕ) (children : List (ℕ × ℕ)) (parts : Parts (List ℕ)) → StandFor list children parts
          → fills nodes starts low high children ≡ true → All IsTagged children → PartsAreWritten low high children parts
      parts_written low high [] NoParts stand filled tagged =
          let same = eqb-true low high filled in record { ends = omega (arith, same); handles = refl; placed = placed-none list low }
      parts_written low high [] (Part role tree parts) stand filled tagged = absurd stand
      parts_written low high (child ∷ children) NoParts stand filled tagged = absurd stand
      parts_written low high (child ∷ children) (Part role tree parts) stand filled tagged =
          let own = tree_written child.0 tree stand.1 in
          let small = (All-head IsTagged child children tagged).1 in
          let found = by_suffix low high child children role tree parts stand.0 small own.0 own.1
          (λ from upto more. parts_written from upto children parts stand.2 more (All-tail IsTagged child children tagged)) (is_suffix tree)
          (subst
          (λ (suffix : Bool). (nat_lt child.0 high
          && (if suffix then nat_eq (child.0 + 1) high && fills nodes starts low (start_at starts child.0) children
          else nat_eq (start_at starts child.0) low && fills nodes starts (child.0 + 1) high children)) ≡ true)
          (suffix_seen child.0 tree stand.1) filled) in
          record { ends = found.0; handles = found.1; placed = found.2 }

    -- the whole list is the run of its last node
    all_written : (last : ℕ) → length nodes ≡ last + 1 → start_at starts last ≡ 0 → (tree : SyntaxTree) → IsTreeOf list tree → list.nodes ≡ nodes_in tree
    all_written last ends begins tree is =
        let long = length-map nodes (renamed_node spelled) in
        let root : end_of list - 1 ≡ last = omega (arith, long, ends) in
        let found = tree_written last tree (subst (λ (handle : ℕ). StandsFor list handle tree) root is.1) in
        let placed = subst (λ (from : ℕ). ArePlaced list from (nodes_from from tree)) begins found.1 in
        let at = found.0 in
        let whole = root_last (start_at starts last) tree in
        sym (placed-whole list (nodes_in tree) (omega (arith, nodes-size 0 tree, at, whole, begins, ends, long)) placed)

same_list : (list : NodeList NameId) → list.first ≡ 0 → list ≡ record { first = 0; nodes = list.nodes }
same_list list is = ap (λ first. record { first = first; nodes = list.nodes }) is

-- a unit whose nodes all are in such runs, of which the last begins with the first node
pub filled_are_written : (list : NodeList NameId) (starts : List ℕ) (count : ℕ) → list.first ≡ 0 → length list.nodes ≡ count → AreFilled list.nodes starts count
    → ((last : ℕ) → count ≡ last + 1 → start_at starts last ≡ 0) → AreWritten list
filled_are_written list starts count from long are begins =
    subst AreWritten (sym (same_list list from))
    (λ spelled tree is. written spelled tree is)
  where
    written : (spelled : NameId → List ℕ) (tree : SyntaxTree) → IsTreeOf (record { first = 0; nodes = map (renamed_node spelled) list.nodes }) tree
        → map (renamed_node spelled) list.nodes ≡ nodes_in tree
    written spelled tree is =
        let some = is.0 in
        let many = length-map list.nodes (renamed_node spelled) in
        let last : count ≡ (count - 1) + 1 = omega (arith, some, many, long) in
        all_written list.nodes starts spelled (λ handle within. are.each handle (omega (arith, within, long))) (count - 1) (long ∙ last) (begins (count - 1) last) tree is
