-- The declarator below the top is a tree whose parameter gets another number, and no other value has that node.
use Rattle.std.proofs.Common.{◌≡◌, ℕ, ◌+◌, ◌-◌, ◌<◌, ◌≤◌, true, List, [], ◌∷◌, ◌++◌, map, reverse, drop, length, slice_get, Option, Some, None, option_map, refl, sym, ap, ap₂, subst, ◌∙◌, arith, append_assoc}
use Rattle.std.proofs.lemmas.Bool.{lt-ltb}
use Rattle.std.proofs.lemmas.List.{reverse-reverse}
use Rattle.std.proofs.lemmas.Option.{same_Some, slice_get_within}
use Rattle.vocabulary.specs.declared.scope.NameSpace.TheVariants.{Ordinary}
use Rattle.meaning_tree.specs.Trees.{SyntaxTree, Node, Parts}
use Rattle.meaning_tree.specs.Nodes.{TreeNode, NodeList, HasNode, ChildrenStandBefore, end_of}
use Rattle.meaning_tree.specs.Runs.{IsRun}
use Rattle.meaning_tree.specs.Listed.{tree_at, parts_at}
use Rattle.meaning_tree.proofs.Runs.{run-rises, runs-rise}
use Rattle.meaning_scopes.specs.Scopes.{Found}
use Rattle.meaning_derivation.specs.State.{ClosedList, State, with_values}
use Rattle.meaning_derivation.specs.Values.{WordValue, TreeValue, ListValue, name_of, value_at}
use Rattle.meaning_derivation.specs.Values as values
use Rattle.meaning_derivation.specs.Scoping.{declarator_numbered, found_name, hidden_by_body, own_list_numbered, own_name_hidden}
use Rattle.sparse_model.specs.declared.ids.NameId.{NameId}
use Rattle.c_tokens.specs.Seen.{text_of}
use Rattle.c_tokens.specs.Spellings.{AreApart}
use Rattle.c_tree.specs.Numbers.{with_number}
use Rattle.c_tree.proofs.Numbers.{length-numbered}
use Rattle.parse_state.specs.declared.value.Value.{Value}
use Rattle.parse_state.specs.declared.value.Value.TheVariants.{Word, Tree}
use Rattle.parse_state.specs.declared.value.Value.TheVariants as kinds
use Rattle.parse_state.specs.Asking.{handle_in}
use Rattle.parse_state.specs.Looking.{found_told}
use Rattle.parse_state.specs.Lying.{AreStacked}
use Rattle.parse_state.specs.OwnNames.{own_parameter, told_by_body}
use Rattle.parse_state.specs.Seen.{Read, state_of, spelled_trees, value_of, values_of}
use Rattle.parse_state.specs.Soundness.{is_known, IsSound}
use Rattle.parse_state.proofs.DeclaredNames.{name-seen, node_name_known}
use Rattle.parse_state.proofs.Lying.{stacked-parted}
use Rattle.parse_state.proofs.Numbered.{stacked-rises}
use Rattle.parse_state.proofs.OtherNumbers.{run_before, run_behind, runs_before_it, runs_behind, same_parts}
use Rattle.parse_state.proofs.OwnNames.{declarator_is, declarator_stays}
use Rattle.parse_state.proofs.Parts.{node_seen}
use Rattle.parse_state.proofs.Stacks.{map-reverse, reverse-cons}

-- what is hidden, by what a look-up told
pub body_told : (found : Option (Found (List ℕ))) → hidden_by_body found ≡ told_by_body (option_map found_told found)
body_told None = refl
body_told (Some found) = refl

-- Values that don't have the node

module _ (names : List (List ℕ)) (list : NodeList NameId) (starts : list.first ≡ 0) (order : ChildrenStandBefore list) (target number : ℕ) where
  abbrev seen_before : Value → values.Value
  seen_before value = value_of names (spelled_trees names list) value

  abbrev seen_after : Value → values.Value
  seen_after value = value_of names (spelled_trees names (with_number list target number)) value

  stacked_before : (stack : List Value) (first end : ℕ) → AreStacked list stack first end → end ≤ target → map seen_after stack ≡ map seen_before stack
  stacked_before [] first end stacked past = refl
  stacked_before (Word token name ∷ stack) first end stacked past =
      ap (λ (rest : List values.Value). WordValue token (text_of names name) ∷ rest) (stacked_before stack first end stacked past)
  stacked_before (Tree root ∷ stack) first end stacked past =
      let rises = stacked-rises list stack (root + 1) end stacked.1 in
      ap₂ (λ (tree : SyntaxTree) (rest : List values.Value). TreeValue tree ∷ rest)
      (run_before names list starts order target number stacked.0 (omega (arith, rises, past))) (stacked_before stack (root + 1) end stacked.1 past)
  stacked_before (kinds.List children ∷ stack) first end stacked past =
      let rises = stacked-rises list stack stacked.0 end stacked.2 in
      ap₂ (λ (parts : Parts (List ℕ)) (rest : List values.Value). ListValue parts ∷ rest)
      (same_parts names list starts order target number children (runs_before_it names list starts order target number stacked.1 (omega (arith, rises, past))))
      (stacked_before stack stacked.0 end stacked.2 past)

  stacked_behind : (stack : List Value) (first end : ℕ) → AreStacked list stack first end → target < first → map seen_after stack ≡ map seen_before stack
  stacked_behind [] first end stacked past = refl
  stacked_behind (Word token name ∷ stack) first end stacked past =
      ap (λ (rest : List values.Value). WordValue token (text_of names name) ∷ rest) (stacked_behind stack first end stacked past)
  stacked_behind (Tree root ∷ stack) first end stacked past =
      let rises = run-rises list stacked.0 in
      ap₂ (λ (tree : SyntaxTree) (rest : List values.Value). TreeValue tree ∷ rest)
      (run_behind names list starts order target number stacked.0 past) (stacked_behind stack (root + 1) end stacked.1 (omega (arith, rises, past)))
  stacked_behind (kinds.List children ∷ stack) first end stacked past =
      let rises = runs-rise list stacked.1 in
      ap₂ (λ (parts : Parts (List ℕ)) (rest : List values.Value). ListValue parts ∷ rest)
      (same_parts names list starts order target number children (runs_behind names list starts order target number stacked.1 past))
      (stacked_behind stack stacked.0 end stacked.2 (omega (arith, rises, past)))

  -- the same from the end on
  turned_before : (rest : List Value) (first end : ℕ) → AreStacked list (reverse rest) first end → end ≤ target → map seen_after rest ≡ map seen_before rest
  turned_before rest first end stacked past =
      ap (map seen_after) (sym (reverse-reverse rest))
      ∙ map-reverse seen_after (reverse rest)
      ∙ ap reverse (stacked_before (reverse rest) first end stacked past)
      ∙ sym (map-reverse seen_before (reverse rest))
      ∙ ap (map seen_before) (reverse-reverse rest)

-- The two last values

two_on_top : (turned : List Value) (root : ℕ) → handle_in (slice_get turned 1) ≡ Some root → (top : Value) × ((rest : List Value) × (turned ≡ top ∷ Tree root ∷ rest))
two_on_top [] root is = absurd (cc is)
two_on_top (top ∷ []) root is = absurd (cc is)
two_on_top (top ∷ Word token name ∷ rest) root is = absurd (cc is)
two_on_top (top ∷ Tree other ∷ rest) root is = (top, (rest, ap (λ (at : ℕ). top ∷ Tree at ∷ rest) (same_Some other root is)))
two_on_top (top ∷ kinds.List children ∷ rest) root is = absurd (cc is)

stack_is : (stack : List Value) (top : Value) (root : ℕ) (rest : List Value) → reverse stack ≡ top ∷ Tree root ∷ rest → stack ≡ reverse rest ++ Tree root ∷ top ∷ []
stack_is stack top root rest turned =
    sym (reverse-reverse stack)
    ∙ ap reverse turned
    ∙ reverse-cons top (Tree root ∷ rest)
    ∙ ap (λ (front : List Value). front ++ top ∷ []) (reverse-cons (Tree root) rest)
    ∙ append_assoc (reverse rest) (Tree root ∷ []) (top ∷ [])

-- what is hidden below a value
hidden_below : (s : State) (top : values.Value) (tree : SyntaxTree) (rest : List values.Value) → s.values ≡ top ∷ TreeValue tree ∷ rest
    → own_name_hidden s (value_at s.values 1)
    ≡ with_values s (top ∷ TreeValue (declarator_numbered (hidden_by_body (found_name s Ordinary (name_of (TreeValue tree)))) tree) ∷ rest)
hidden_below s top tree rest is =
    let changed : SyntaxTree = declarator_numbered (hidden_by_body (found_name s Ordinary (name_of (TreeValue tree)))) tree in
    ap (λ (all : List values.Value). own_name_hidden s (value_at all 1)) is
    ∙ ap (λ (all : List values.Value). with_values s (value_at all 0 ∷ TreeValue changed ∷ drop 2 all)) is

-- Steps

module _ (read : Read) (closed : List (ClosedList NameId)) (sound : IsSound read.names read.list read.stack read.scopes closed) (order : ChildrenStandBefore read.list) (apart : AreApart read.names)
    (root : ℕ) (node : TreeNode NameId) (has : HasNode read.list root node) (there : handle_in (slice_get (reverse read.stack) 1) ≡ Some root) where
  abbrev tree : SyntaxTree
  tree = tree_at (spelled_trees read.names read.list) root

  name_known : is_known read.names node.name ≡ true
  name_known = lt-ltb node.name.0 (length read.names) (node_name_known read.names read.list root node sound.node_names has)

  tree_is : tree ≡ Node node.kind node.token (text_of read.names node.name) node.number (parts_at (spelled_trees read.names read.list) node.children)
  tree_is = node_seen read.names read.list sound.first order root node has

  numbered_is : (number : ℕ) → declarator_numbered number tree
      ≡ Node node.kind node.token (text_of read.names node.name) node.number
      (own_list_numbered (text_of read.names node.name) number (parts_at (spelled_trees read.names read.list) node.children))
  numbered_is number = ap (declarator_numbered number) tree_is

  -- where no parameter has the name, all stays
  pub nothing_hidden : own_parameter read.list node.name root ≡ None → state_of read ≡ own_name_hidden (state_of read) (value_at (state_of read).values 1)
  nothing_hidden none =
      let (top, (rest, turned)) = two_on_top (reverse read.stack) root there in
      let s : State = state_of read in
      let seen : Value → values.Value = value_of read.names (spelled_trees read.names read.list) in
      let hidden : ℕ = hidden_by_body (found_name s Ordinary (name_of (TreeValue tree))) in
      let old : s.values ≡ seen top ∷ TreeValue tree ∷ map seen rest = ap (map seen) turned in
      let same : declarator_numbered hidden tree ≡ tree =
      numbered_is hidden
      ∙ ap (λ (parts : Parts (List ℕ)). Node node.kind node.token (text_of read.names node.name) node.number parts)
      (declarator_stays read.names read.list sound.first order apart sound.node_names node.name name_known hidden root node has none)
      ∙ sym tree_is in
      ap (λ (all : List values.Value). with_values s all) old
      ∙ ap (λ (one : SyntaxTree). with_values s (seen top ∷ TreeValue one ∷ map seen rest)) (sym same)
      ∙ sym (hidden_below s (seen top) tree (map seen rest) old)

  module _ (target : ℕ) (is : own_parameter read.list node.name root ≡ Some target) where
    -- where these values lie
    lying : (top : Value) × ((rest : List Value) × (reverse read.stack ≡ top ∷ Tree root ∷ rest)
        × ((middle : ℕ) × AreStacked read.list (reverse rest) read.list.first middle × (IsRun read.list middle root × AreStacked read.list (top ∷ []) (root + 1) (end_of read.list))))
    lying =
        let (top, (rest, turned)) = two_on_top (reverse read.stack) root there in
        let (middle, front, back) = stacked-parted read.list (reverse rest) (Tree root ∷ top ∷ []) read.list.first (end_of read.list)
        (subst (λ (stack : List Value). AreStacked read.list stack read.list.first (end_of read.list)) (stack_is read.stack top root rest turned) sound.laid) in
        (top, (rest, turned, (middle, front, back)))

    pub target_below : target < end_of read.list
    target_below =
        let (top, (rest, turned, (middle, front, back))) = lying in
        let first = sound.first in
        let within : root - read.list.first < length read.list.nodes = slice_get_within read.list.nodes (root - read.list.first) node has.1 in
        let placed = declarator_is read.names read.list sound.first order apart sound.node_names node.name name_known 0 target middle root node back.0 has is in
        let before = placed.2 in
        omega (arith, first, within, before)

    -- the parameter's declarator has the number
    pub own_hidden : (number : ℕ) → number ≡ hidden_by_body (found_name (state_of read) Ordinary (text_of read.names node.name))
        → state_of (record read { list = with_number read.list target number }) ≡ own_name_hidden (state_of read) (value_at (state_of read).values 1)
    own_hidden number hides =
        let (top, (rest, turned, (middle, front, back))) = lying in
        let s : State = state_of read in
        let seen : Value → values.Value = value_of read.names (spelled_trees read.names read.list) in
        let now : Value → values.Value = value_of read.names (spelled_trees read.names (with_number read.list target number)) in
        let old : s.values ≡ seen top ∷ TreeValue tree ∷ map seen rest = ap (map seen) turned in
        let (changed, low, high) = declarator_is read.names read.list sound.first order apart sound.node_names node.name name_known number target middle root node back.0 has is in
        let top_same : now top ≡ seen top =
        ap (λ (all : List values.Value). value_at all 0)
        (stacked_behind read.names read.list sound.first order target number (top ∷ []) (root + 1) (end_of read.list) back.1 (omega (arith, high))) in
        let rest_same : map now rest ≡ map seen rest = turned_before read.names read.list sound.first order target number rest read.list.first middle front low in
        let tree_now : tree_at (spelled_trees read.names (with_number read.list target number)) root ≡ declarator_numbered number tree = changed ∙ sym (numbered_is number) in
        let hidden_is : number ≡ hidden_by_body (found_name s Ordinary (name_of (TreeValue tree))) =
        hides ∙ ap (λ (text : List ℕ). hidden_by_body (found_name s Ordinary text)) (sym (name-seen read.names read.list sound.first order root node has)) in
        let new : values_of read.names (with_number read.list target number) read.stack ≡ seen top ∷ TreeValue (declarator_numbered number tree) ∷ map seen rest =
        ap (map now) turned
        ∙ ap₂ (λ (one : values.Value) (others : List values.Value). one ∷ TreeValue (tree_at (spelled_trees read.names (with_number read.list target number)) root) ∷ others) top_same rest_same
        ∙ ap (λ (one : SyntaxTree). seen top ∷ TreeValue one ∷ map seen rest) tree_now in
        let counted : length (with_number read.list target number).nodes ≡ s.nodes = length-numbered read.list.nodes (target - read.list.first) number in
        ap₂ (λ (all : List values.Value) (nodes : ℕ). record s { values = all; nodes = nodes }) new counted
        ∙ ap (λ (one : ℕ). with_values s (seen top ∷ TreeValue (declarator_numbered one tree) ∷ map seen rest)) hidden_is
        ∙ sym (hidden_below s (seen top) tree (map seen rest) old)
