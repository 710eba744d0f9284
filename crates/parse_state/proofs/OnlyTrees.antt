-- The only tree of a list stands in its place.
use Rattle.std.proofs.Common.{◌≡◌, ℕ, zero, suc, ◌+◌, true, List, [], ◌∷◌, ◌++◌, map, reverse, take, slice_get, Option, Some, None, option_map, is_some, refl, sym, ap, ◌∙◌}
use Rattle.std.specs.List.{list_all}
use Rattle.std.proofs.lemmas.Bool.{and_parts}
use Rattle.std.proofs.lemmas.Option.{same_Some}
use Rattle.meaning_tree.specs.Trees.{SyntaxTree}
use Rattle.meaning_tree.specs.Listed.{tree_at, parts_at}
use Rattle.meaning_derivation.specs.Values as values
use Rattle.parse_state.specs.declared.value.Value.{Value}
use Rattle.parse_state.specs.declared.value.Value.TheVariants.{Word, Tree}
use Rattle.parse_state.specs.declared.value.Value.TheVariants as kinds
use Rattle.parse_state.specs.Looking.{only_tree, with_only}
use Rattle.parse_state.specs.OnlyTrees.{only_child, only_in}
use Rattle.parse_state.specs.Seen.{Read, state_of, value_of, spelled_trees}
use Rattle.parse_state.specs.Giving.{is_below, has_handles_below}
use Rattle.parse_state.specs.Making.{start_of}
use Rattle.parse_state.proofs.Stacks.{all-reverse}
use Rattle.parse_state.proofs.Seeing.{seen, value_at-seen, values_of-pushed, values_of-below}

only_part : (trees : List SyntaxTree) (children : List (ℕ × ℕ)) → only_tree (parts_at trees children) ≡ option_map (tree_at trees) (only_child children)
only_part trees [] = refl
only_part trees (child ∷ []) = refl
only_part trees (child ∷ other ∷ children) = refl

only_found : (names : List (List ℕ)) (trees : List SyntaxTree) (found : Option Value)
    → only_tree (values.parts_of (seen (value_of names trees) found)) ≡ option_map (tree_at trees) (only_in found)
only_found names trees None = refl
only_found names trees (Some (Word token name)) = refl
only_found names trees (Some (Tree handle)) = refl
only_found names trees (Some (kinds.List children)) = only_part trees children

pub only_tree-at : (names : List (List ℕ)) (trees : List SyntaxTree) (stack : List Value) (depth : ℕ)
    → only_tree (values.parts_of (values.value_at (map (value_of names trees) stack) depth)) ≡ option_map (tree_at trees) (only_in (slice_get stack depth))
only_tree-at names trees stack depth =
    ap (λ value. only_tree (values.parts_of value)) (value_at-seen (value_of names trees) stack depth) ∙ only_found names trees (slice_get stack depth)

-- its handle is known

child-below : (end : ℕ) (children : List (ℕ × ℕ)) (handle : ℕ) → list_all (is_below end) children ≡ true → only_child children ≡ Some handle → has_handles_below end (Tree handle) ≡ true
child-below end [] handle below is = absurd (cc is)
child-below end (child ∷ []) handle below is = ap (λ it. has_handles_below end (Tree it)) (sym (same_Some _ _ is)) ∙ (and_parts (is_below end child) true below).0
child-below end (child ∷ other ∷ children) handle below is = absurd (cc is)

only_in-below : (end : ℕ) (value : Value) (handle : ℕ) → has_handles_below end value ≡ true → only_in (Some value) ≡ Some handle → has_handles_below end (Tree handle) ≡ true
only_in-below end (Word token name) handle below is = absurd (cc is)
only_in-below end (Tree other) handle below is = absurd (cc is)
only_in-below end (kinds.List children) handle below is = child-below end children handle below is

only_within : (end : ℕ) (stack : List Value) (depth handle : ℕ) → list_all (has_handles_below end) stack ≡ true → only_in (slice_get stack depth) ≡ Some handle
    → has_handles_below end (Tree handle) ≡ true
only_within end [] depth handle below is = absurd (cc is)
only_within end (value ∷ stack) zero handle below is =
    only_in-below end value handle (and_parts (has_handles_below end value) (list_all (has_handles_below end) stack) below).0 is
only_within end (value ∷ stack) (suc depth) handle below is =
    only_within end stack depth handle (and_parts (has_handles_below end value) (list_all (has_handles_below end) stack) below).1 is

pub only-below : (end : ℕ) (stack : List Value) (depth handle : ℕ) → list_all (has_handles_below end) stack ≡ true → only_in (slice_get (reverse stack) depth) ≡ Some handle
    → has_handles_below end (Tree handle) ≡ true
only-below end stack depth handle below is = only_within end (reverse stack) depth handle (all-reverse (has_handles_below end) stack below) is

-- Steps

-- the tree in the place of the list
pub unwrapped_is : (read : Read) (depth handle : ℕ) → only_in (slice_get (reverse read.stack) depth) ≡ Some handle
    → state_of (record read { stack = take (start_of read.stack (depth + 1)) read.stack ++ Tree handle ∷ [] })
    ≡ with_only (state_of read) depth (only_tree (values.parts_of (values.value_at (state_of read).values depth)))
unwrapped_is read depth handle is =
    let trees = spelled_trees read.names read.list in
    ap (λ (stacked : List values.Value). record (state_of read) { values = stacked })
    (values_of-pushed read.names read.list (take (start_of read.stack (depth + 1)) read.stack) (Tree handle)
    ∙ ap (λ (rest : List values.Value). values.TreeValue (tree_at trees handle) ∷ rest) (values_of-below read.names read.list read.stack (depth + 1)))
    ∙ sym (ap (with_only (state_of read) depth) (only_tree-at read.names trees (reverse read.stack) depth ∙ ap (option_map (tree_at trees)) is))

-- where there is none, all stays
pub nothing_unwrapped : (read : Read) (depth : ℕ) → only_in (slice_get (reverse read.stack) depth) ≡ None
    → state_of read ≡ with_only (state_of read) depth (only_tree (values.parts_of (values.value_at (state_of read).values depth)))
nothing_unwrapped read depth is =
    let trees = spelled_trees read.names read.list in
    sym (ap (with_only (state_of read) depth) (only_tree-at read.names trees (reverse read.stack) depth ∙ ap (option_map (tree_at trees)) is))

-- whether there is one
pub unwraps : (read : Read) (depth : ℕ) (found : Option ℕ) → only_in (slice_get (reverse read.stack) depth) ≡ found
    → is_some (only_tree (values.parts_of (values.value_at (state_of read).values depth))) ≡ is_some found
unwraps read depth found is =
    let trees = spelled_trees read.names read.list in
    ap is_some (only_tree-at read.names trees (reverse read.stack) depth ∙ ap (option_map (tree_at trees)) is) ∙ mapped found
  where
    mapped : (one : Option ℕ) → is_some (option_map (tree_at (spelled_trees read.names read.list)) one) ≡ is_some one
    mapped None = refl
    mapped (Some handle) = refl
