-- The tree on top, or the only one of the list there, is that of the last node, and gets another number.
use Rattle.std.proofs.Common.{◌≡◌, ℕ, zero, suc, ◌+◌, ◌-◌, ◌<◌, ◌≤◌, true, List, [], ◌∷◌, ◌++◌, map, reverse, drop, length, slice_get, Option, Some, None, option_map, refl, sym, ap, ap₂, subst, ◌∙◌, arith}
use Rattle.std.specs.List.{list_all}
use Rattle.std.proofs.lemmas.List.{reverse-reverse}
use Rattle.std.proofs.lemmas.Option.{same_Some}
use Rattle.vocabulary.specs.Roles.{role_of}
use Rattle.meaning_tree.specs.Trees.{SyntaxTree, Node, NoParts, Part}
use Rattle.meaning_tree.specs.Nodes.{TreeNode, NodeList, end_of}
use Rattle.meaning_tree.specs.Listed.{tree_at, parts_at}
use Rattle.meaning_tree.proofs.Runs.{run-rises}
use Rattle.meaning_tree.proofs.Listing.{tree_at-next, trees_of-added}
use Rattle.meaning_scopes.specs.Scopes.{Found}
use Rattle.meaning_derivation.specs.State.{ClosedList, State, with_value}
use Rattle.meaning_derivation.specs.Values.{WordValue, TreeValue, ListValue, value_at}
use Rattle.meaning_derivation.specs.Values as values
use Rattle.meaning_derivation.specs.Scoping.{hidden_number, top_numbered}
use Rattle.sparse_model.specs.declared.ids.NameId.{NameId}
use Rattle.c_tokens.specs.Seen.{text_of}
use Rattle.c_tree.specs.Numbers.{numbered_at, with_number}
use Rattle.c_tree.proofs.Numbers.{length-numbered}
use Rattle.parse_state.specs.declared.value.Value.{Value}
use Rattle.parse_state.specs.declared.value.Value.TheVariants.{Word, Tree}
use Rattle.parse_state.specs.declared.value.Value.TheVariants as kinds
use Rattle.parse_state.specs.Declaring.{told_hidden, top_in}
use Rattle.parse_state.specs.Giving.{has_handles_below}
use Rattle.parse_state.specs.Looking.{found_told}
use Rattle.parse_state.specs.Lying.{AreStacked}
use Rattle.parse_state.specs.Seen.{Read, state_of, value_of, values_of, spelled_trees}
use Rattle.parse_state.specs.Soundness.{IsSound}
use Rattle.parse_state.proofs.Lying.{stacked-parted, run-of_one}
use Rattle.parse_state.proofs.Numbered.{stacked-handles}
use Rattle.parse_state.proofs.Seeing.{length-spelled_trees, values_of-pushed, values-stay}
use Rattle.parse_state.proofs.Sound.{all-weaker, handles-later}
use Rattle.parse_state.proofs.Stacks.{reverse-cons, all-reverse}

-- what is hidden, by what a look-up told
pub hidden_told : (found : Option (Found (List ℕ))) → hidden_number found ≡ told_hidden (option_map found_told found)
hidden_told None = refl
hidden_told (Some found) = refl

-- The last one

last_one : {X : Type 0} (xs : List X) (place : ℕ) → length xs ≡ place + 1 → (front : List X) × ((x : X) × (xs ≡ front ++ x ∷ []) × (length front ≡ place))
last_one [] place long = absurd (omega (arith, long))
last_one (x ∷ []) place long = ([], (x, refl, omega (arith, long)))
last_one (x ∷ other ∷ xs) zero long = absurd (omega (arith, long))
last_one (x ∷ other ∷ xs) (suc place) long =
    let (front, (last, is, many)) = last_one (other ∷ xs) place (omega (arith, long)) in (x ∷ front, (last, ap (λ rest. x ∷ rest) is, ap suc many))

numbered-end :
    {Spelling : Type 0} (front : List (TreeNode Spelling)) (node : TreeNode Spelling) (place number : ℕ) → length front ≡ place
    → numbered_at (front ++ node ∷ []) place number ≡ front ++ record node { number = number } ∷ []
numbered-end [] node zero number is = refl
numbered-end [] node (suc place) number is = absurd (omega (arith, is))
numbered-end (one ∷ front) node zero number is = absurd (omega (arith, is))
numbered-end (one ∷ front) node (suc place) number is = ap (λ rest. one ∷ rest) (numbered-end front node place number (omega (arith, is)))

-- The value on top

first_value : (turned : List Value) (tree : ℕ) → top_in (slice_get turned 0) ≡ Some tree
    → (value : Value) × ((rest : List Value) × (turned ≡ value ∷ rest) × (top_in (Some value) ≡ Some tree))
first_value [] tree is = absurd (cc is)
first_value (value ∷ rest) tree is = (value, (rest, refl, is))

on_top : (stack : List Value) (tree : ℕ) → top_in (slice_get (reverse stack) 0) ≡ Some tree
    → (value : Value) × ((below : List Value) × (stack ≡ below ++ value ∷ []) × (top_in (Some value) ≡ Some tree))
on_top stack tree is =
    let (value, (rest, turned, top)) = first_value (reverse stack) tree is in
    (value, (reverse rest, sym (reverse-reverse stack) ∙ ap reverse turned ∙ reverse-cons value rest, top))

top_ends : (list : NodeList NameId) (value : Value) (tree first end : ℕ) → top_in (Some value) ≡ Some tree → AreStacked list (value ∷ []) first end
    → (first ≤ tree) × (tree + 1 ≡ end)
top_ends list (Word token name) tree first end is stacked = absurd (cc is)
top_ends list (Tree other) tree first end is stacked =
    let same : other ≡ tree = same_Some other tree is in
    let rises = run-rises list stacked.0 in
    let ends = stacked.1 in
    (omega (arith, same, rises), omega (arith, same, ends))
top_ends list (kinds.List []) tree first end is stacked = absurd (cc is)
top_ends list (kinds.List (child ∷ [])) tree first end is stacked =
    let same : child.0 ≡ tree = same_Some child.0 tree is in
    let one = run-of_one list stacked.1 child refl in
    let rises = run-rises list one.0 in
    let ends = one.1 in
    let last = stacked.2 in
    (omega (arith, same, rises), omega (arith, same, ends, last))
top_ends list (kinds.List (child ∷ other ∷ children)) tree first end is stacked = absurd (cc is)

-- Trees

module _ (names : List (List ℕ)) (begins : ℕ) (front : List (TreeNode NameId)) (node : TreeNode NameId) (place : ℕ) (many : length front ≡ place) where
  abbrev list_with : ℕ → NodeList NameId
  list_with number = record { first = begins; nodes = front ++ record node { number = number } ∷ [] }

  abbrev trees_before : List SyntaxTree
  trees_before = spelled_trees names (record { first = begins; nodes = front })

  abbrev tree_with : ℕ → SyntaxTree
  tree_with number = Node node.kind node.token (text_of names node.name) number (parts_at trees_before node.children)

  trees_are : (number : ℕ) → spelled_trees names (list_with number) ≡ trees_before ++ tree_with number ∷ []
  trees_are number = trees_of-added (text_of names) (record { first = begins; nodes = front }) (record node { number = number })

  count : length trees_before ≡ place
  count = length-spelled_trees names (record { first = begins; nodes = front }) ∙ many

  tree_is : (number : ℕ) → tree_at (spelled_trees names (list_with number)) place ≡ tree_with number
  tree_is number = ap (λ trees. tree_at trees place) (trees_are number) ∙ tree_at-next trees_before (tree_with number) place count

  -- the value on top, where the node has this number
  abbrev value_with : Value → ℕ → values.Value
  value_with (Tree handle) number = TreeValue (tree_with number)
  value_with (kinds.List (child ∷ [])) number = ListValue (Part (role_of child.1) (tree_with number) NoParts)
  value_with value number = WordValue 0 []

  value_is : (value : Value) (number : ℕ) → top_in (Some value) ≡ Some place → value_of names (spelled_trees names (list_with number)) value ≡ value_with value number
  value_is (Word token name) number is = absurd (cc is)
  value_is (Tree other) number is =
      ap (λ (at : ℕ). TreeValue (tree_at (spelled_trees names (list_with number)) at)) (same_Some other place is) ∙ ap TreeValue (tree_is number)
  value_is (kinds.List []) number is = absurd (cc is)
  value_is (kinds.List (child ∷ [])) number is =
      ap (λ (at : ℕ). ListValue (Part (role_of child.1) (tree_at (spelled_trees names (list_with number)) at) NoParts)) (same_Some child.0 place is)
      ∙ ap (λ (tree : SyntaxTree). ListValue (Part (role_of child.1) tree NoParts)) (tree_is number)
  value_is (kinds.List (child ∷ other ∷ children)) number is = absurd (cc is)

  values_are : (below : List Value) (value : Value) → list_all (has_handles_below place) below ≡ true → top_in (Some value) ≡ Some place → (number : ℕ)
      → values_of names (list_with number) (below ++ value ∷ []) ≡ value_with value number ∷ map (value_of names trees_before) (reverse below)
  values_are below value known is number =
      let handles : list_all (has_handles_below (length trees_before)) (reverse below) ≡ true =
      ap (λ (end : ℕ). list_all (has_handles_below end) (reverse below)) count ∙ all-reverse (has_handles_below place) below known in
      values_of-pushed names (list_with number) below value
      ∙ ap (λ (one : values.Value). one ∷ values_of names (list_with number) below) (value_is value number is)
      ∙ ap (λ (rest : List values.Value). value_with value number ∷ rest)
      (ap (λ (all : List SyntaxTree). map (value_of names all) (reverse below)) (trees_are number)
      ∙ values-stay names trees_before (tree_with number ∷ []) (reverse below) handles)

  numbered_is : (s : State) (number other : ℕ) (value : Value) → top_in (Some value) ≡ Some place
      → top_numbered s number (value_with value other) ≡ with_value s 1 (value_with value number)
  numbered_is s number other (Word token name) is = absurd (cc is)
  numbered_is s number other (Tree handle) is = refl
  numbered_is s number other (kinds.List []) is = absurd (cc is)
  numbered_is s number other (kinds.List (child ∷ [])) is = refl
  numbered_is s number other (kinds.List (child ∷ next ∷ children)) is = absurd (cc is)

-- Steps

module _ (read : Read) (closed : List (ClosedList NameId)) (sound : IsSound read.names read.list read.stack read.scopes closed) (tree : ℕ)
    (top : top_in (slice_get (reverse read.stack) 0) ≡ Some tree) where
  -- the tree's node is the last one, and the values below it have those before
  ending : (value : Value) × ((below : List Value) × (read.stack ≡ below ++ value ∷ []) × (top_in (Some value) ≡ Some tree) × (list_all (has_handles_below tree) below ≡ true) × (tree + 1 ≡ end_of read.list))
  ending =
      let (value, (below, stack_is, is)) = on_top read.stack tree top in
      let (middle, front_laid, tree_laid) = stacked-parted read.list below (value ∷ []) read.list.first (end_of read.list)
      (subst (λ (stack : List Value). AreStacked read.list stack read.list.first (end_of read.list)) stack_is sound.laid) in
      let (rises, ends) = top_ends read.list value tree middle (end_of read.list) is tree_laid in
      (value, (below, stack_is, is, all-weaker (has_handles_below middle) (has_handles_below tree) (handles-later middle tree rises) below (stacked-handles read.list below read.list.first middle front_laid), ends))

  pub top_below : tree < end_of read.list
  top_below = let (value, (below, stack_is, is, handles, ends)) = ending in omega (arith, ends)

  -- with this number
  pub numbered_top : (number : ℕ) → state_of (record read { list = with_number read.list tree number }) ≡ top_numbered (state_of read) number (value_at (state_of read).values 0)
  numbered_top number =
      let (value, (below, stack_is, is, handles, ends)) = ending in
      let zero_first = sound.first in
      let (front, (node, nodes_are, many)) = last_one read.list.nodes tree (omega (arith, zero_first, ends)) in
      rest_of value below front node stack_is is handles nodes_are many
    where
      rest_of : (value : Value) (below : List Value) (front : List (TreeNode NameId)) (node : TreeNode NameId) → read.stack ≡ below ++ value ∷ []
          → top_in (Some value) ≡ Some tree → list_all (has_handles_below tree) below ≡ true → read.list.nodes ≡ front ++ node ∷ [] → length front ≡ tree
          → state_of (record read { list = with_number read.list tree number }) ≡ top_numbered (state_of read) number (value_at (state_of read).values 0)
      rest_of value below front node stack_is is handles nodes_are many =
          let names = read.names in
          let s : State = state_of read in
          let others : List values.Value = map (value_of names (trees_before names read.list.first front node tree many)) (reverse below) in
          let seen : ℕ → values.Value = value_with names read.list.first front node tree many value in
          let list_is : read.list ≡ record { first = read.list.first; nodes = front ++ node ∷ [] } =
          ap (λ (nodes : List (TreeNode NameId)). record { first = read.list.first; nodes = nodes }) nodes_are in
          let old : s.values ≡ seen node.number ∷ others =
          ap₂ (λ (list : NodeList NameId) (stack : List Value). values_of names list stack) list_is stack_is
          ∙ values_are names read.list.first front node tree many below value handles is node.number in
          let zero_first = sound.first in
          let place : tree - read.list.first ≡ tree = omega (arith, zero_first) in
          let new_nodes : (with_number read.list tree number).nodes ≡ front ++ record node { number = number } ∷ [] =
          ap₂ (λ (nodes : List (TreeNode NameId)) (at : ℕ). numbered_at nodes at number) nodes_are place ∙ numbered-end front node tree number many in
          let now : values_of names (with_number read.list tree number) read.stack ≡ seen number ∷ others =
          ap₂ (λ (nodes : List (TreeNode NameId)) (stack : List Value). values_of names (record { first = read.list.first; nodes = nodes }) stack) new_nodes stack_is
          ∙ values_are names read.list.first front node tree many below value handles is number in
          let counted : length (with_number read.list tree number).nodes ≡ s.nodes = length-numbered read.list.nodes (tree - read.list.first) number in
          ap₂ (λ (all : List values.Value) (nodes : ℕ). record s { values = all; nodes = nodes }) (now ∙ ap (λ (all : List values.Value). seen number ∷ drop 1 all) (sym old)) counted
          ∙ sym (ap (λ (all : List values.Value). top_numbered s number (value_at all 0)) old ∙ numbered_is names read.list.first front node tree many s number node.number value is)

-- where there is none, all stays
nothing_in : (s : State) (names : List (List ℕ)) (trees : List SyntaxTree) (number : ℕ) (turned : List Value) → top_in (slice_get turned 0) ≡ None
    → s ≡ top_numbered s number (value_at (map (value_of names trees) turned) 0)
nothing_in s names trees number [] is = refl
nothing_in s names trees number (Word token name ∷ turned) is = refl
nothing_in s names trees number (Tree handle ∷ turned) is = absurd (cc is)
nothing_in s names trees number (kinds.List [] ∷ turned) is = refl
nothing_in s names trees number (kinds.List (child ∷ []) ∷ turned) is = absurd (cc is)
nothing_in s names trees number (kinds.List (child ∷ other ∷ children) ∷ turned) is = refl

pub nothing_numbered : (read : Read) (number : ℕ) → top_in (slice_get (reverse read.stack) 0) ≡ None
    → state_of read ≡ top_numbered (state_of read) number (value_at (state_of read).values 0)
nothing_numbered read number is = nothing_in (state_of read) read.names (spelled_trees read.names read.list) number (reverse read.stack) is
