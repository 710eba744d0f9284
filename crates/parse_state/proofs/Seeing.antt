-- How values are seen, and what stays of that where nodes are added.
use Rattle.std.proofs.Common.{◌≡◌, ℕ, zero, suc, ◌-◌, true, List, [], ◌∷◌, ◌++◌, map, reverse, take, drop, length, slice_get, unwrap_or, Option, Some, None, refl, sym, ap, ◌∙◌, arith}
use Rattle.std.specs.List.{list_all}
use Rattle.std.proofs.lemmas.Bool.{and_parts, ltb-true}
use Rattle.std.proofs.lemmas.List.{length-map}
use Rattle.meaning_tree.specs.Trees.{SyntaxTree}
use Rattle.meaning_tree.specs.Nodes.{TreeNode, NodeList, with_node}
use Rattle.meaning_tree.specs.Listed.{parts_at, renamed_node, tree_over}
use Rattle.meaning_tree.proofs.Listing.{length-trees_from, tree_at-stays, tree_at-next, parts_at-stays, trees_of-added}
use Rattle.meaning_derivation.specs.Values.{WordValue, TreeValue, ListValue}
use Rattle.meaning_derivation.specs.Values as values
use Rattle.meaning_derivation.specs.Shapes.{spelling_at}
use Rattle.sparse_model.specs.declared.ids.NameId.{NameId}
use Rattle.c_tokens.specs.Seen.{text_of}
use Rattle.parse_state.specs.declared.value.Value.{Value}
use Rattle.parse_state.specs.declared.value.Value.TheVariants.{Word, Tree}
use Rattle.parse_state.specs.declared.value.Value.TheVariants as kinds
use Rattle.parse_state.specs.Seen.{value_of, spelled_trees, values_of}
use Rattle.parse_state.specs.Giving.{has_handles_below}
use Rattle.parse_state.specs.Asking.{no_name, token_in, name_in, name_in_at}
use Rattle.parse_state.proofs.Stacks.{reverse-snoc, all-reverse, all-take, first_ones}

-- Look-ups

-- a value that was looked up, as it is seen
abbrev pub seen : (Value → values.Value) → Option Value → values.Value
seen value_seen None = WordValue 0 []
seen value_seen (Some value) = value_seen value

-- the value so far below the top is the one that stands there
pub value_at-seen : (value_seen : Value → values.Value) (stack : List Value) (depth : ℕ)
    → values.value_at (map value_seen stack) depth ≡ seen value_seen (slice_get stack depth)
value_at-seen value_seen [] depth = refl
value_at-seen value_seen (value ∷ stack) zero = refl
value_at-seen value_seen (value ∷ stack) (suc depth) = value_at-seen value_seen stack depth

module _ (names : List (List ℕ)) (trees : List SyntaxTree) where
  token_of-seen : (found : Option Value) → values.token_of (seen (value_of names trees) found) ≡ token_in found
  token_of-seen None = refl
  token_of-seen (Some (Word token name)) = refl
  token_of-seen (Some (Tree handle)) = refl
  token_of-seen (Some (kinds.List children)) = refl

  pub token_at : (stack : List Value) (depth : ℕ) → values.token_of (values.value_at (map (value_of names trees) stack) depth) ≡ token_in (slice_get stack depth)
  token_at stack depth = ap values.token_of (value_at-seen (value_of names trees) stack depth) ∙ token_of-seen (slice_get stack depth)

  -- the first spelling is the empty one
  module _ (empty : slice_get names 0 ≡ Some []) where
    no_text : text_of names no_name ≡ []
    no_text = ap (λ found. unwrap_or found []) empty

    text_of-seen : (found : Option Value) → values.text_of (seen (value_of names trees) found) ≡ text_of names (name_in found)
    text_of-seen None = sym no_text
    text_of-seen (Some (Word token name)) = refl
    text_of-seen (Some (Tree handle)) = sym no_text
    text_of-seen (Some (kinds.List children)) = sym no_text

    pub text_at : (stack : List Value) (depth : ℕ) → values.text_of (values.value_at (map (value_of names trees) stack) depth) ≡ text_of names (name_in (slice_get stack depth))
    text_at stack depth = ap values.text_of (value_at-seen (value_of names trees) stack depth) ∙ text_of-seen (slice_get stack depth)

    pub spelling_at-seen : (stack : List Value) (depth : Option ℕ) → spelling_at depth (map (value_of names trees) stack) ≡ text_of names (name_in_at stack depth)
    spelling_at-seen stack None = sym no_text
    spelling_at-seen stack (Some depth) = text_at stack depth

-- Growth

module _ (names : List (List ℕ)) where
  -- a value stays
  pub value_of-stays : (trees more : List SyntaxTree) (value : Value) → has_handles_below (length trees) value ≡ true
      → value_of names (trees ++ more) value ≡ value_of names trees value
  value_of-stays trees more (Word token name) below = refl
  value_of-stays trees more (Tree handle) below = ap TreeValue (tree_at-stays trees more handle (ltb-true handle (length trees) below))
  value_of-stays trees more (kinds.List children) below = ap ListValue (parts_at-stays trees more children below)

  -- values stay
  pub values-stay : (trees more : List SyntaxTree) (stack : List Value) → list_all (has_handles_below (length trees)) stack ≡ true
      → map (value_of names (trees ++ more)) stack ≡ map (value_of names trees) stack
  values-stay trees more [] below = refl
  values-stay trees more (value ∷ stack) below =
      let halves = and_parts (has_handles_below (length trees) value) (list_all (has_handles_below (length trees)) stack) below in
      let one = value_of-stays trees more value halves.0 in
      let rest = values-stay trees more stack halves.1 in
      cc (one, rest)

  -- as many trees as nodes
  pub length-spelled_trees : (list : NodeList NameId) → length (spelled_trees names list) ≡ length list.nodes
  length-spelled_trees list =
      let all = length-trees_from [] (map (renamed_node (text_of names)) list.nodes) in
      let same = length-map list.nodes (renamed_node (text_of names)) in
      omega (arith, all, same)

  -- one more value on top
  pub values_of-pushed : (list : NodeList NameId) (stack : List Value) (value : Value)
      → values_of names list (stack ++ value ∷ []) ≡ value_of names (spelled_trees names list) value ∷ values_of names list stack
  values_of-pushed list stack value = ap (map (value_of names (spelled_trees names list))) (reverse-snoc stack value)

  drop-map : {X Y : Type 0} (f : X → Y) (count : ℕ) (xs : List X) → drop count (map f xs) ≡ map f (drop count xs)
  drop-map f zero xs = refl
  drop-map f (suc count) [] = refl
  drop-map f (suc count) (x ∷ xs) = drop-map f count xs

  -- those below the last so many
  pub values_of-below : (list : NodeList NameId) (stack : List Value) (takes : ℕ)
      → values_of names list (take (length stack - takes) stack) ≡ drop takes (values_of names list stack)
  values_of-below list stack takes =
      ap (map (value_of names (spelled_trees names list))) (sym (first_ones stack takes)) ∙ sym (drop-map (value_of names (spelled_trees names list)) takes (reverse stack))

  -- a new tree in the place of the last so many
  pub values_of-made : (list : NodeList NameId) (stack : List Value) (takes : ℕ) (node : TreeNode NameId)
      → list_all (has_handles_below (length list.nodes)) stack ≡ true
      → values_of names (with_node list node) (take (length stack - takes) stack ++ Tree (length list.nodes) ∷ [])
      ≡ TreeValue (tree_over (spelled_trees names list) (renamed_node (text_of names) node)) ∷ drop takes (values_of names list stack)
  values_of-made list stack takes node known =
      let trees = spelled_trees names list in
      let tree = tree_over trees (renamed_node (text_of names) node) in
      let front = take (length stack - takes) stack in
      let grown : spelled_trees names (with_node list node) ≡ trees ++ tree ∷ [] = trees_of-added (text_of names) list node in
      let below : list_all (has_handles_below (length trees)) (reverse front) ≡ true =
      ap (λ (end : ℕ). list_all (has_handles_below end) (reverse front)) (length-spelled_trees list)
      ∙ all-reverse (has_handles_below (length list.nodes)) front (all-take (has_handles_below (length list.nodes)) (length stack - takes) stack known) in
      ap (λ (all : List SyntaxTree). map (value_of names all) (reverse (front ++ Tree (length list.nodes) ∷ []))) grown
      ∙ ap (map (value_of names (trees ++ tree ∷ []))) (reverse-snoc front (Tree (length list.nodes)))
      ∙ ap (λ (made : SyntaxTree). TreeValue made ∷ map (value_of names (trees ++ tree ∷ [])) (reverse front)) (tree_at-next trees tree (length list.nodes) (length-spelled_trees list))
      ∙ ap (λ (rest : List values.Value). TreeValue tree ∷ rest) (values-stay trees (tree ∷ []) (reverse front) below ∙ values_of-below list stack takes)

  -- a list in the place of the last so many
  pub values_of-collected : (list : NodeList NameId) (stack : List Value) (takes : ℕ) (children : List (ℕ × ℕ))
      → values_of names list (take (length stack - takes) stack ++ kinds.List children ∷ [])
      ≡ ListValue (parts_at (spelled_trees names list) children) ∷ drop takes (values_of names list stack)
  values_of-collected list stack takes children =
      values_of-pushed list (take (length stack - takes) stack) (kinds.List children)
      ∙ ap (λ (rest : List values.Value). ListValue (parts_at (spelled_trees names list) children) ∷ rest) (values_of-below list stack takes)
