-- What becomes of the values where the specifier of the tree on top has another number.
use Rattle.std.proofs.Common.{◌≡◌, ℕ, zero, suc, ◌+◌, ◌-◌, ◌≤◌, Bool, true, ◌&&◌, List, [], ◌∷◌, ◌++◌, map, reverse, length, slice_get, Some, refl, sym, ap, ap₂, subst, ◌∙◌, arith, append_assoc, length-append}
use Rattle.std.specs.List.{list_all}
use Rattle.std.proofs.lemmas.Bool.{and_parts, lt-ltb}
use Rattle.std.proofs.lemmas.List.{map-append}
use Rattle.std.proofs.lemmas.List.Folds.{list_all-append}
use Rattle.std.proofs.lemmas.Option.{same_Some}
use Rattle.vocabulary.specs.Roles.{role_of}
use Rattle.meaning_tree.specs.Trees.{SyntaxTree, Node, NoParts, Part}
use Rattle.meaning_tree.specs.Nodes.{TreeNode, NodeList, end_of}
use Rattle.meaning_tree.specs.Runs.{IsRun, AreRuns, run, no_runs, last_run}
use Rattle.meaning_tree.specs.Listed.{tree_at, parts_at, tree_over, trees_from, renamed_node}
use Rattle.meaning_tree.proofs.Runs.{run-rises, runs-rise}
use Rattle.meaning_tree.proofs.Listing.{tree_at-next}
use Rattle.meaning_scopes.specs.Scopes.{ScopeList}
use Rattle.meaning_derivation.specs.State.{ClosedList}
use Rattle.meaning_derivation.specs.Values.{TreeValue}
use Rattle.meaning_derivation.specs.Values as values
use Rattle.sparse_model.specs.declared.ids.NameId.{NameId}
use Rattle.c_tokens.specs.Seen.{text_of}
use Rattle.c_tree.specs.Numbers.{numbered_at, with_number}
use Rattle.c_tree.proofs.Numbers.{length-numbered}
use Rattle.parse_state.specs.declared.value.Value.{Value}
use Rattle.parse_state.specs.declared.value.Value.TheVariants.{Word, Tree}
use Rattle.parse_state.specs.declared.value.Value.TheVariants as kinds
use Rattle.parse_state.specs.Giving.{is_below, has_handles_below}
use Rattle.parse_state.specs.Lying.{AreStacked}
use Rattle.parse_state.specs.Seen.{value_of, values_of, spelled_trees}
use Rattle.parse_state.specs.Soundness.{is_known, IsSound}
use Rattle.parse_state.proofs.Seeing.{length-spelled_trees, values-stay}
use Rattle.parse_state.proofs.Sound.{all-weaker, below-later}
use Rattle.parse_state.proofs.Stacks.{reverse-snoc, all-reverse}

-- Nodes

module _ {Spelling : Type 0} where
  -- a node stays, but for its number
  numbered-node :
      (nodes : List (TreeNode Spelling)) (place number other : ℕ) (node : TreeNode Spelling) → slice_get nodes other ≡ Some node
      → (after : TreeNode Spelling) × (slice_get (numbered_at nodes place number) other ≡ Some after) × (node.children ≡ after.children)
  numbered-node [] place number other node is = (node, is, refl)
  numbered-node (first ∷ nodes) zero number zero node is = (record first { number = number }, refl, ap (λ (one : TreeNode Spelling). one.children) (sym (same_Some first node is)))
  numbered-node (first ∷ nodes) zero number (suc other) node is = (node, is, refl)
  numbered-node (first ∷ nodes) (suc place) number zero node is = (node, is, refl)
  numbered-node (first ∷ nodes) (suc place) number (suc other) node is = numbered-node nodes place number other node is

  -- the two last nodes
  pub last_two :
      (nodes : List (TreeNode Spelling)) (place : ℕ) (first second : TreeNode Spelling) → slice_get nodes place ≡ Some first → slice_get nodes (suc place) ≡ Some second
      → length nodes ≡ place + 2 → (front : List (TreeNode Spelling)) × (nodes ≡ front ++ first ∷ second ∷ []) × (length front ≡ place)
  last_two [] place first second one other long = absurd (omega (arith, long))
  last_two (only ∷ []) place first second one other long = absurd (omega (arith, long))
  last_two (one ∷ other ∷ []) zero first second here there long = ([], ap₂ (λ a b. a ∷ b ∷ []) (same_Some one first here) (same_Some other second there), refl)
  last_two (one ∷ other ∷ further ∷ nodes) zero first second here there long = absurd (omega (arith, long))
  last_two (one ∷ other ∷ nodes) (suc place) first second here there long =
      let (front, is, many) = last_two (other ∷ nodes) place first second here there (omega (arith, long)) in
      (one ∷ front, ap (λ rest. one ∷ rest) is, omega (arith, many))

  pub numbered-last :
      (front : List (TreeNode Spelling)) (first second : TreeNode Spelling) (place number : ℕ) → length front ≡ place
      → numbered_at (front ++ first ∷ second ∷ []) place number ≡ front ++ record first { number = number } ∷ second ∷ []
  numbered-last [] first second zero number is = refl
  numbered-last [] first second (suc place) number is = absurd (omega (arith, is))
  numbered-last (one ∷ front) first second zero number is = absurd (omega (arith, is))
  numbered-last (one ∷ front) first second (suc place) number is = ap (λ rest. one ∷ rest) (numbered-last front first second place number (omega (arith, is)))

  -- runs stay
  module _ (list : NodeList Spelling) (handle number : ℕ) where
    mutual
      run-numbered : {first root : ℕ} → IsRun list first root → IsRun (with_number list handle number) first root
      run-numbered {first = first} {root = root} (run node has runs) =
          let (after, is, same) = numbered-node list.nodes (handle - list.first) number (root - list.first) node has.1 in
          run after (has.0, is) (subst (λ (children : List (ℕ × ℕ)). AreRuns (with_number list handle number) children first root) same (runs-numbered runs))

      pub runs-numbered : {children : List (ℕ × ℕ)} {first end : ℕ} → AreRuns list children first end → AreRuns (with_number list handle number) children first end
      runs-numbered no_runs = no_runs
      runs-numbered (last_run front back child middle runs one) = last_run front back child middle (runs-numbered runs) (run-numbered one)

  -- what runs have is before their end
  runs-below : {list : NodeList Spelling} {children : List (ℕ × ℕ)} {first end : ℕ} → AreRuns list children first end → list_all (is_below end) children ≡ true
  runs-below no_runs = refl
  runs-below {list} (last_run front back child middle runs one) =
      let rises = run-rises list one in
      let end : ℕ = child.0 + 1 in
      let before = all-weaker (is_below middle) (is_below end) (below-later middle end (omega (arith, rises))) (front ++ back) (runs-below runs) in
      let halves = and_parts (list_all (is_below end) front) (list_all (is_below end) back) (sym (list_all-append (is_below end) front back) ∙ before) in
      list_all-append (is_below end) front (child ∷ back)
      ∙ ap₂ (λ (one_half other : Bool). one_half && other) halves.0 (ap₂ (λ (one_test other : Bool). one_test && other) (lt-ltb child.0 end (omega arith)) halves.1)

-- Values

module _ (list : NodeList NameId) where
  pub stacked-rises : (stack : List Value) (first end : ℕ) → AreStacked list stack first end → first ≤ end
  stacked-rises [] first end stacked = omega (arith, stacked)
  stacked-rises (Word token name ∷ stack) first end stacked = stacked-rises stack first end stacked
  stacked-rises (Tree root ∷ stack) first end stacked =
      let one = run-rises list stacked.0 in
      let rest = stacked-rises stack (root + 1) end stacked.1 in
      omega (arith, one, rest)
  stacked-rises (kinds.List children ∷ stack) first end stacked =
      let one = runs-rise list stacked.1 in
      let rest = stacked-rises stack stacked.0 end stacked.2 in
      omega (arith, one, rest)

  -- so are the handles of values
  pub stacked-handles : (stack : List Value) (first end : ℕ) → AreStacked list stack first end → list_all (has_handles_below end) stack ≡ true
  stacked-handles [] first end stacked = refl
  stacked-handles (Word token name ∷ stack) first end stacked = stacked-handles stack first end stacked
  stacked-handles (Tree root ∷ stack) first end stacked =
      let rest = stacked-rises stack (root + 1) end stacked.1 in
      ap₂ (λ (one other : Bool). one && other) (lt-ltb root end (omega (arith, rest))) (stacked-handles stack (root + 1) end stacked.1)
  stacked-handles (kinds.List children ∷ stack) first end stacked =
      let rest = stacked-rises stack stacked.0 end stacked.2 in
      ap₂ (λ (one other : Bool). one && other)
      (all-weaker (is_below stacked.0) (is_below end) (below-later stacked.0 end rest) children (runs-below stacked.1))
      (stacked-handles stack stacked.0 end stacked.2)

  module _ (handle number : ℕ) where
    stacked-numbered : (stack : List Value) (first end : ℕ) → AreStacked list stack first end → AreStacked (with_number list handle number) stack first end
    stacked-numbered [] first end stacked = stacked
    stacked-numbered (Word token name ∷ stack) first end stacked = stacked-numbered stack first end stacked
    stacked-numbered (Tree root ∷ stack) first end stacked = (run-numbered list handle number stacked.0, stacked-numbered stack (root + 1) end stacked.1)
    stacked-numbered (kinds.List children ∷ stack) first end stacked =
        (stacked.0, runs-numbered list handle number stacked.1, stacked-numbered stack stacked.0 end stacked.2)

names-numbered :
    (names : List (List ℕ)) (nodes : List (TreeNode NameId)) (place number : ℕ)
    → list_all (λ (one : TreeNode NameId). is_known names one.name) (numbered_at nodes place number) ≡ list_all (λ (one : TreeNode NameId). is_known names one.name) nodes
names-numbered names [] place number = refl
names-numbered names (node ∷ nodes) zero number = refl
names-numbered names (node ∷ nodes) (suc place) number = ap (λ (rest : Bool). is_known names node.name && rest) (names-numbered names nodes place number)

-- what was read goes on being sound
pub sound_numbered :
    (names : List (List ℕ)) (list : NodeList NameId) (stack : List Value) (scopes : ScopeList NameId) (closed : List (ClosedList NameId)) (handle number : ℕ)
    → IsSound names list stack scopes closed → IsSound names (with_number list handle number) stack scopes closed
sound_numbered names list stack scopes closed handle number sound =
    let same = length-numbered list.nodes (handle - list.first) number in
    let same_end : end_of list ≡ end_of (with_number list handle number) = omega (arith, same) in
    record {
      first = sound.first;
      few = omega (arith, same, sound.few);
      handles = ap (λ (end : ℕ). list_all (has_handles_below end) stack) same ∙ sound.handles;
      laid = subst (λ (end : ℕ). AreStacked (with_number list handle number) stack list.first end) same_end
          (stacked-numbered list handle number stack list.first (end_of list) sound.laid);
      words = sound.words;
      node_names = names-numbered names list.nodes (handle - list.first) number ∙ sound.node_names;
      bound_names = sound.bound_names;
      closed_names = sound.closed_names;
    }

-- Trees

trees_from-behind : (trees : List SyntaxTree) (first second : List (TreeNode (List ℕ))) → trees_from trees (first ++ second) ≡ trees_from (trees_from trees first) second
trees_from-behind trees [] second = refl
trees_from-behind trees (node ∷ first) second = trees_from-behind (trees ++ tree_over trees node ∷ []) first second

module _ (names : List (List ℕ)) (begins : ℕ) (front : List (TreeNode NameId)) (node top : TreeNode NameId) (place tag : ℕ) (many : length front ≡ place) (only : top.children ≡ (place, tag) ∷ []) where
  abbrev pub trees_before : List SyntaxTree
  trees_before = spelled_trees names (record { first = begins; nodes = front })

  -- the specifier, with this number
  abbrev pub specifier_tree : ℕ → SyntaxTree
  specifier_tree number = Node node.kind node.token (text_of names node.name) number (parts_at trees_before node.children)

  -- and the tree on top
  abbrev pub top_tree : ℕ → SyntaxTree
  top_tree number = Node top.kind top.token (text_of names top.name) top.number (Part (role_of tag) (specifier_tree number) NoParts)

  abbrev numbered_nodes : ℕ → NodeList NameId
  numbered_nodes number = record { first = begins; nodes = front ++ record node { number = number } ∷ top ∷ [] }

  abbrev pub over_both : ℕ → SyntaxTree
  over_both number = tree_over (trees_before ++ specifier_tree number ∷ []) (renamed_node (text_of names) top)

  pub all_trees : (number : ℕ) → spelled_trees names (numbered_nodes number) ≡ trees_before ++ specifier_tree number ∷ over_both number ∷ []
  all_trees number =
      ap (trees_from []) (map-append (renamed_node (text_of names)) front (record node { number = number } ∷ top ∷ []))
      ∙ trees_from-behind [] (map (renamed_node (text_of names)) front) (renamed_node (text_of names) (record node { number = number }) ∷ renamed_node (text_of names) top ∷ [])
      ∙ append_assoc trees_before (specifier_tree number ∷ []) (over_both number ∷ [])

  pub count : length trees_before ≡ place
  count = length-spelled_trees names (record { first = begins; nodes = front }) ∙ many

  over_is : (number : ℕ) → over_both number ≡ top_tree number
  over_is number =
      ap (λ children. Node top.kind top.token (text_of names top.name) top.number (parts_at (trees_before ++ specifier_tree number ∷ []) children)) only
      ∙ ap (λ tree. Node top.kind top.token (text_of names top.name) top.number (Part (role_of tag) tree NoParts)) (tree_at-next trees_before (specifier_tree number) place count)

  top_is : (number : ℕ) → tree_at (spelled_trees names (numbered_nodes number)) (suc place) ≡ top_tree number
  top_is number =
      let more : length (trees_before ++ specifier_tree number ∷ []) ≡ suc place = omega (arith, count, length-append trees_before (specifier_tree number ∷ [])) in
      ap (λ trees. tree_at trees (suc place)) (all_trees number ∙ sym (append_assoc trees_before (specifier_tree number ∷ []) (over_both number ∷ [])))
      ∙ tree_at-next (trees_before ++ specifier_tree number ∷ []) (over_both number) (suc place) more
      ∙ over_is number

  -- the values of a stack whose top that tree is
  pub values_numbered : (below : List Value) → list_all (has_handles_below place) below ≡ true → (number : ℕ)
      → values_of names (numbered_nodes number) (below ++ Tree (suc place) ∷ []) ≡ TreeValue (top_tree number) ∷ map (value_of names trees_before) (reverse below)
  values_numbered below known number =
      let trees = spelled_trees names (numbered_nodes number) in
      let handles : list_all (has_handles_below (length trees_before)) (reverse below) ≡ true =
      ap (λ (end : ℕ). list_all (has_handles_below end) (reverse below)) count ∙ all-reverse (has_handles_below place) below known in
      ap (map (value_of names trees)) (reverse-snoc below (Tree (suc place)))
      ∙ ap (λ (tree : SyntaxTree). TreeValue tree ∷ map (value_of names trees) (reverse below)) (top_is number)
      ∙ ap (λ (rest : List values.Value). TreeValue (top_tree number) ∷ rest)
      (ap (λ (all : List SyntaxTree). map (value_of names all) (reverse below)) (all_trees number)
      ∙ values-stay names trees_before (specifier_tree number ∷ over_both number ∷ []) (reverse below) handles)
