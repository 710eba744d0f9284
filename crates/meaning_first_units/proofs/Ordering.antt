-- In the nodes of a tree, as they are written, specifiers stand before what is declared with them.
use Rattle.std.proofs.Common.{◌≡◌, ℕ, zero, suc, ◌+◌, ◌<◌, Bool, true, false, not, ◌&&◌, List, [], ◌∷◌, ◌++◌, All, length, get_or, map, if◌then◌else◌, refl, sym, ap, ap₂, subst, ◌∙◌, arith}
use Rattle.std.proofs.lemmas.Bool.{and_parts, not-true}
use Rattle.std.proofs.lemmas.List.Elements.{All-nil, All-cons, All-append, All-get_or, All-map}
use Rattle.vocabulary.specs.declared.node_kind.NodeKind.{NodeKind}
use Rattle.vocabulary.specs.declared.node_kind.NodeKind.TheVariants as kinds
use Rattle.vocabulary.specs.Roles.{role_tag}
use Rattle.meaning_tree.specs.Trees.{SyntaxTree, Node, Parts, NoParts, Part}
use Rattle.meaning_tree.specs.Nodes.{TreeNode}
use Rattle.meaning_tree.specs.Laid.{size_of, sizes_of}
use Rattle.meaning_tree.specs.Listed.{renamed_node}
use Rattle.meaning_unit_nodes.specs.Written.{children_from, following_start, is_suffix, nodes_from, nodes_in, part_nodes_from, part_start, root_from}
use Rattle.meaning_syntax.specs.Items.{Item}
use Rattle.meaning_typing.specs.Units.{UnitNodes, child_at, kind_at, no_node}
use Rattle.meaning_first_units.specs.Units.{Renaming, own_number, parts_without_links, without_links}
use Rattle.meaning_first_units.proofs.Declaring.{never}
use Rattle.meaning_first_units.proofs.Reaching.{AllFine, AreFine, IsFine}
use Rattle.meaning_first_units.proofs.Standing.{handles_of}

-- Parts that are written where they stand

abbrev begins_plain : Parts (List ℕ) → Bool
begins_plain (Part role tree (Part more other parts)) = not (is_suffix tree) && not (is_suffix other)
begins_plain parts = false

abbrev parts_in : SyntaxTree → Parts (List ℕ)
parts_in (Node kind token name number parts) = parts

suffix-without : (tree : SyntaxTree) → is_suffix (without_links tree) ≡ is_suffix tree
suffix-without (Node kind token name number parts) = refl

plain-without : (parts : Parts (List ℕ)) → begins_plain (parts_without_links parts) ≡ begins_plain parts
plain-without NoParts = refl
plain-without (Part role tree NoParts) = refl
plain-without (Part role tree (Part more other parts)) = ap₂ (λ b c. not b && not c) (suffix-without tree) (suffix-without other)

-- the roots of two trees that stand one behind the other
root-before : (first : ℕ) (tree other : SyntaxTree) → root_from first tree < root_from (first + size_of tree) other
root-before first (Node kind token name number parts) (Node other_kind other_token other_name other_number others) = omega arith

-- the first two children stand in order
abbrev AreInOrder : List (ℕ × ℕ) → Type 0
AreInOrder children = (first second : ℕ × ℕ) × (others : List (ℕ × ℕ)) × (children ≡ first ∷ second ∷ others) × (first.0 < second.0)

children-ordered : (first : ℕ) (parts : Parts (List ℕ)) → begins_plain parts ≡ true → AreInOrder (children_from first parts)
children-ordered first NoParts is = absurd (never is)
children-ordered first (Part role tree NoParts) is = absurd (never is)
children-ordered first (Part role tree (Part more other parts)) is =
    let plain = and_parts (not (is_suffix tree)) (not (is_suffix other)) is in
    let one = not-true (is_suffix tree) plain.0 in
    let two = not-true (is_suffix other) plain.1 in
    let behind = following_start first tree in
    let here : part_start first tree (Part more other parts) ≡ first =
    ap (λ (b : Bool). if b then first + sizes_of (Part more other parts) else first) one in
    let next : part_start behind other parts ≡ first + size_of tree =
    ap (λ (b : Bool). if b then behind + sizes_of parts else behind) two ∙ ap (λ (b : Bool). if b then first else first + size_of tree) one in (
      (root_from (part_start first tree (Part more other parts)) tree, role_tag role),
      (root_from (part_start behind other parts) other, role_tag more),
      children_from (following_start behind other) parts,
      refl,
      subst (λ start. root_from start tree < root_from (part_start behind other parts) other) (sym here)
          (subst (λ start. root_from first tree < root_from start other) (sym next) (root-before first tree other)),
    )

-- Declarations

abbrev is_declaration : NodeKind → Bool
is_declaration kinds.Declaration = true
is_declaration kind = false

abbrev IsOrdered : TreeNode (List ℕ) → Type 0
IsOrdered node = is_declaration node.kind ≡ true → AreInOrder node.children

-- the nodes of parts, in either order
either-ordered : (suffix : Bool) (own following : List (TreeNode (List ℕ))) → All IsOrdered own → All IsOrdered following
    → All IsOrdered (if suffix then following ++ own else own ++ following)
either-ordered true own following one others = All-append IsOrdered following own others one
either-ordered false own following one others = All-append IsOrdered own following one others

module _ (items : List Item) where
  own-ordered : (first : ℕ) (kind : NodeKind) (token : ℕ) (name : List ℕ) (number : ℕ) (parts : Parts (List ℕ))
      → IsFine items kind token name (own_number kind number) (parts_without_links parts)
      → IsOrdered (record { kind = kind; token = token; name = name; number = number; children = children_from first parts })
  own-ordered first kinds.Declaration token name number parts fine is =
      let (start, words, stars, own, among, same) = fine in
      children-ordered first parts (sym (plain-without parts) ∙ ap (λ tree. begins_plain (parts_in tree)) same)
  own-ordered first kind token name number parts fine is = absurd (never is)

  mutual
    ordered-from : (first : ℕ) (tree : SyntaxTree) → AllFine items (without_links tree) → All IsOrdered (nodes_from first tree)
    ordered-from first (Node kind token name number parts) fine =
        let own : TreeNode (List ℕ) = record { kind = kind; token = token; name = name; number = number; children = children_from first parts } in
        All-append IsOrdered (part_nodes_from first parts) (own ∷ []) (parts-ordered first parts fine.1)
        (All-cons IsOrdered own [] (own-ordered first kind token name number parts fine.0) (All-nil IsOrdered))

    parts-ordered : (first : ℕ) (parts : Parts (List ℕ)) → AreFine items (parts_without_links parts) → All IsOrdered (part_nodes_from first parts)
    parts-ordered first NoParts fine = All-nil IsOrdered
    parts-ordered first (Part role tree parts) fine =
        either-ordered (is_suffix tree) (nodes_from (part_start first tree parts) tree) (part_nodes_from (following_start first tree) parts)
        (ordered-from (part_start first tree parts) tree fine.0) (parts-ordered (following_start first tree) parts fine.1)

-- By handles

pub within-by-kind : (nodes : UnitNodes) (handle : ℕ) (kind : NodeKind) → kind_at nodes handle ≡ kind → (kind ≡ kinds.EmptyDeclaration → ⊥) → handle < length nodes
within-by-kind nodes handle kind is other = within nodes handle (λ past. other (sym is ∙ ap (λ (node : TreeNode (List ℕ)). node.kind) past))
  where
    within : (some : UnitNodes) (at : ℕ) → (get_or some at no_node ≡ no_node → ⊥) → at < length some
    within [] at there = absurd (there refl)
    within (node ∷ some) zero there = omega arith
    within (node ∷ some) (suc at) there = let behind = within some at there in omega (arith, behind)

pub in-order :
    (items : List Item) (renaming : Renaming) (tree : SyntaxTree) → AllFine items (without_links tree) → (handle : ℕ)
    → kind_at (map (renamed_node renaming) (nodes_in tree)) handle ≡ kinds.Declaration
    → child_at (map (renamed_node renaming) (nodes_in tree)) handle 0 < child_at (map (renamed_node renaming) (nodes_in tree)) handle 1
in-order items renaming tree fine handle is =
    let nodes = map (renamed_node renaming) (nodes_in tree) in
    let all = All-map IsOrdered (renamed_node renaming) (nodes_in tree) (ordered-from items 0 tree fine) in
    let within = within-by-kind nodes handle kinds.Declaration is (λ same. never (sym (ap is_declaration same))) in
    let (first, second, others, same, before) = All-get_or IsOrdered nodes handle no_node within all (ap is_declaration is) in
    subst (λ (children : List ℕ). get_or children 0 (length nodes) < get_or children 1 (length nodes)) (sym (ap handles_of same)) before
