-- A list of nodes under other names: its trees are the same ones under them.
use Rattle.std.proofs.Common.{◌≡◌, ℕ, zero, suc, ◌-◌, ◌<◌, ◌≤◌, List, [], ◌∷◌, map, slice_get, Some, All, refl, sym, ap, subst, arith}
use Rattle.std.proofs.lemmas.List.{length-map}
use Rattle.std.proofs.lemmas.Option.{same_Some}
use Rattle.vocabulary.specs.declared.role.Role.{Role}
use Rattle.meaning_tree.specs.Trees.{Tree, Node, Parts, NoParts, Part}
use Rattle.meaning_tree.specs.Nodes.{TreeNode, NodeList, end_of, StandsFor, StandFor, IsTreeOf, ChildrenStandBefore}
use Rattle.meaning_tree.specs.Listed.{renamed_node, renamed_list}
use Rattle.meaning_tree.specs.Forms.{PartSort, IsOf, Slot, One, Perhaps, Each, Fits, nothing, one, left_out, there, no_more, one_more, no_declarator, declarator, no_member, member, IsFormedTree, AreFormedTrees, IsFormed}

-- Elements

slice_get-map : {X Y : Type 0} (f : X → Y) (xs : List X) (place : ℕ) (x : X) → slice_get xs place ≡ Some x → slice_get (map f xs) place ≡ Some (f x)
slice_get-map f [] place x is = absurd (cc is)
slice_get-map f (first ∷ xs) zero x is = ap (λ one. Some (f one)) (same_Some first x is)
slice_get-map f (first ∷ xs) (suc place) x is = slice_get-map f xs place x is

slice_get-mapped : {X Y : Type 0} (f : X → Y) (xs : List X) (place : ℕ) (y : Y) → slice_get (map f xs) place ≡ Some y
    → (x : X) × (slice_get xs place ≡ Some x) × (f x ≡ y)
slice_get-mapped f [] place y is = absurd (cc is)
slice_get-mapped f (first ∷ xs) zero y is = (first, refl, same_Some (f first) y is)
slice_get-mapped f (first ∷ xs) (suc place) y is = slice_get-mapped f xs place y is

module _ {N M : Type 0} (renaming : N → M) where
  abbrev mutual
    renamed_tree : Tree N → Tree M
    renamed_tree (Node kind token name number parts) = Node kind token (renaming name) number (renamed_parts parts)

    renamed_parts : Parts N → Parts M
    renamed_parts NoParts = NoParts
    renamed_parts (Part role tree parts) = Part role (renamed_tree tree) (renamed_parts parts)

  -- children still stand before their parents
  pub stand_before-renamed : (list : NodeList N) → ChildrenStandBefore list → ChildrenStandBefore (renamed_list renaming list)
  stand_before-renamed list order handle node has =
      let found = slice_get-mapped (renamed_node renaming) list.nodes (handle - list.first) node has.1 in
      subst (λ (one : TreeNode M). All (λ child. (list.first ≤ child.0) × (child.0 < handle)) one.children) found.2 (order handle found.0 (has.0, found.1))

  mutual
    stands-renamed : (list : NodeList N) (handle : ℕ) (tree : Tree N) → StandsFor list handle tree → StandsFor (renamed_list renaming list) handle (renamed_tree tree)
    stands-renamed list handle (Node kind token name number parts) stands =
        (stands.0, (stands.1.0, slice_get-map (renamed_node renaming) list.nodes (handle - list.first) _ stands.1.1), stand-renamed list stands.0 parts stands.2)

    stand-renamed : (list : NodeList N) (children : List (ℕ × ℕ)) (parts : Parts N) → StandFor list children parts
        → StandFor (renamed_list renaming list) children (renamed_parts parts)
    stand-renamed list [] NoParts stand = tt
    stand-renamed list [] (Part role tree parts) stand = absurd stand
    stand-renamed list (child ∷ children) NoParts stand = absurd stand
    stand-renamed list (child ∷ children) (Part role tree parts) stand =
        (stand.0, stands-renamed list child.0 tree stand.1, stand-renamed list children parts stand.2)

  is_tree-renamed : (list : NodeList N) (tree : Tree N) → IsTreeOf list tree → IsTreeOf (renamed_list renaming list) (renamed_tree tree)
  is_tree-renamed list tree is =
      let same = length-map list.nodes (renamed_node renaming) in
      let some = is.0 in
      let last : end_of list - 1 ≡ end_of (renamed_list renaming list) - 1 = omega (arith, same) in
      (omega (arith, same, some), subst (λ (root : ℕ). StandsFor (renamed_list renaming list) root (renamed_tree tree)) last (stands-renamed list (end_of list - 1) tree is.1))

  -- Which parts a node has isn't asked of names

  -- what is behind the first part
  part_behind : (parts : Parts N) (role : Role) (tree : Tree M) (others : Parts M) → renamed_parts parts ≡ Part role tree others
      → (first : Tree N) × (rest : Parts N) × (parts ≡ Part role first rest) × (renamed_tree first ≡ tree) × (renamed_parts rest ≡ others)
  part_behind NoParts role tree others is = absurd (cc is)
  part_behind (Part own first rest) role tree others is = (first, rest, cc is, cc is, cc is)

  sort-named : (sorts : List PartSort) (first : Tree N) (tree : Tree M) → renamed_tree first ≡ tree → IsOf sorts tree → IsOf sorts first
  sort-named sorts (Node kind token name number parts) tree is of = subst (IsOf sorts) (sym is) of

  fits-named : {slots : List Slot} {seen : Parts M} → Fits slots seen → (parts : Parts N) → renamed_parts parts ≡ seen → Fits slots parts
  fits-named nothing NoParts is = nothing
  fits-named nothing (Part role tree parts) is = absurd (cc is)
  fits-named (one {role} {sorts} {slots} {tree} {parts = others} of rest) parts is =
      let found = part_behind parts role tree others is in
      subst (Fits (One role sorts ∷ slots)) (sym found.2) (one (sort-named sorts found.0 tree found.3 of) (fits-named rest found.1 found.4))
  fits-named (left_out rest) parts is = left_out (fits-named rest parts is)
  fits-named (there {role} {sorts} {slots} {tree} {parts = others} of rest) parts is =
      let found = part_behind parts role tree others is in
      subst (Fits (Perhaps role sorts ∷ slots)) (sym found.2) (there (sort-named sorts found.0 tree found.3 of) (fits-named rest found.1 found.4))
  fits-named (no_more rest) parts is = no_more (fits-named rest parts is)
  fits-named (one_more {role} {sorts} {slots} {tree} {parts = others} of rest) parts is =
      let found = part_behind parts role tree others is in
      subst (Fits (Each role sorts ∷ slots)) (sym found.2) (one_more (sort-named sorts found.0 tree found.3 of) (fits-named rest found.1 found.4))
  fits-named (no_declarator rest) parts is = no_declarator (fits-named rest parts is)
  fits-named (declarator rest) parts is = declarator (fits-named rest parts is)
  fits-named (no_member rest) parts is = no_member (fits-named rest parts is)
  fits-named (member rest) parts is = member (fits-named rest parts is)

  mutual
    formed-named : (tree : Tree N) → IsFormedTree (renamed_tree tree) → IsFormedTree tree
    formed-named (Node kind token name number parts) formed = (fits-named formed.0 parts refl, all_formed-named parts formed.1)

    all_formed-named : (parts : Parts N) → AreFormedTrees (renamed_parts parts) → AreFormedTrees parts
    all_formed-named NoParts formed = tt
    all_formed-named (Part role tree parts) formed = (formed-named tree formed.0, all_formed-named parts formed.1)

  -- a list is formed where it is under other names
  pub is_formed-named : (list : NodeList N) → IsFormed (renamed_list renaming list) → IsFormed list
  is_formed-named list formed tree is = formed-named tree (formed (renamed_tree tree) (is_tree-renamed list tree is))
