-- What was read goes on being sound.
use Rattle.std.proofs.Common.{◌≡◌, ℕ, zero, suc, ◌+◌, ◌-◌, ◌<◌, ◌≤◌, ◌^◌, Bool, true, false, ◌&&◌, List, [], ◌∷◌, ◌++◌, reverse, take, drop, length, slice_get, get_or, Option, None, Some, All, Result, Ok, Err, is_err, OnOk, refl, sym, ap, ap₂, ◌∙◌, arith}
use Rattle.std.specs.List.{list_all}
use Rattle.std.proofs.lemmas.Bool.{and_parts, ltb-true, lt-ltb}
use Rattle.std.proofs.lemmas.List.{drop_more, length-append}
use Rattle.std.proofs.lemmas.List.Folds.{list_all-append}
use Rattle.std.proofs.lemmas.List.Elements.{All-cons, All-nil}
use Rattle.std.proofs.lemmas.Option.{slice_get_within}
use Rattle.meaning_tree.specs.Nodes.{TreeNode, NodeList, end_of, with_node}
use Rattle.meaning_scopes.specs.Scopes.{ScopeList}
use Rattle.meaning_scopes.specs.laws.Scopes.{all_named}
use Rattle.meaning_derivation.specs.State.{ClosedList}
use Rattle.sparse_model.specs.declared.ids.NameId.{NameId}
use Rattle.parse_state.specs.declared.value.Value.{Value}
use Rattle.parse_state.specs.declared.value.Value.TheVariants.{Word, Tree}
use Rattle.parse_state.specs.declared.value.Value.TheVariants as kinds
use Rattle.parse_state.specs.declared.shape.Source.{Source}
use Rattle.parse_state.specs.Giving.{is_below, has_handles_below, is_small, given, left_behind, children_in}
use Rattle.parse_state.specs.Asking.{no_name, name_in, name_in_at}
use Rattle.parse_state.specs.Lying.{AreStacked, AreWords}
use Rattle.parse_state.specs.OnlyTrees.{only_in}
use Rattle.parse_state.specs.Seen.{values_of}
use Rattle.parse_state.specs.Soundness.{is_known, has_known_name, has_known_entries, IsSound}
use Rattle.parse_state.proofs.Lying.{stacked-append, stacked-below, stacked-collected, stacked-made, stacked-unwrapped}
use Rattle.parse_state.proofs.OnlyTrees.{only-below}
use Rattle.parse_state.proofs.Stacks.{all-take, all-drop, all-reverse}

-- one test follows from another
pub all-weaker : {X : Type 0} (first second : X → Bool) → ((x : X) → first x ≡ true → second x ≡ true) → (xs : List X) → list_all first xs ≡ true → list_all second xs ≡ true
all-weaker first second weaker [] all = refl
all-weaker first second weaker (x ∷ xs) all =
    let halves = and_parts (first x) (list_all first xs) all in
    ap₂ (λ (one rest : Bool). one && rest) (weaker x halves.0) (all-weaker first second weaker xs halves.1)

-- one more behind others
pub all-snoc : {X : Type 0} (test : X → Bool) (xs : List X) (x : X) → list_all test xs ≡ true → test x ≡ true → list_all test (xs ++ x ∷ []) ≡ true
all-snoc test xs x all one = list_all-append test xs (x ∷ []) ∙ ap₂ (λ (front back : Bool). front && (back && true)) all one

-- Handles

pub below-later : (end later : ℕ) → end ≤ later → (child : ℕ × ℕ) → is_below end child ≡ true → is_below later child ≡ true
below-later end later grows child below = let before = ltb-true child.0 end below in lt-ltb child.0 later (omega (arith, before, grows))

pub handles-later : (end later : ℕ) → end ≤ later → (value : Value) → has_handles_below end value ≡ true → has_handles_below later value ≡ true
handles-later end later grows (Word token name) below = refl
handles-later end later grows (Tree handle) below = let before = ltb-true handle end below in lt-ltb handle later (omega (arith, before, grows))
handles-later end later grows (kinds.List children) below = all-weaker (is_below end) (is_below later) (below-later end later grows) children below

small-below : (end : ℕ) → end ≤ 2 ^ 30 → (value : Value) → has_handles_below end value ≡ true → is_small value ≡ true
small-below end few (Word token name) below = refl
small-below end few (Tree handle) below = let before = ltb-true handle end below in lt-ltb handle (2 ^ 30) (omega (arith, before, few))
small-below end few (kinds.List children) below = refl

pub all_small : (end : ℕ) → end ≤ 2 ^ 30 → (stack : List Value) → list_all (has_handles_below end) stack ≡ true → list_all is_small stack ≡ true
all_small end few stack below = all-weaker (has_handles_below end) is_small (small-below end few) stack below

-- the children that values give are below what the values have
given-below : (end : ℕ) (value : Value) (sources : List Source) → has_handles_below end value ≡ true → list_all (is_below end) (given value sources) ≡ true
given-below end (Word token name) sources below = refl
given-below end (Tree handle) sources below = ap (λ (one : Bool). one && true) below
given-below end (kinds.List children) sources below = below

pub children-below : (end : ℕ) (stack : List Value) (sources : List Source) → list_all (has_handles_below end) stack ≡ true → list_all (is_below end) (children_in stack sources) ≡ true
children-below end [] sources below = refl
children-below end (value ∷ stack) sources below =
    let halves = and_parts (has_handles_below end value) (list_all (has_handles_below end) stack) below in
    list_all-append (is_below end) (given value sources) (children_in stack (left_behind value sources))
    ∙ ap₂ (λ (one rest : Bool). one && rest) (given-below end value sources halves.0) (children-below end stack (left_behind value sources) halves.1)

All-below : (first end : ℕ) → first ≡ 0 → (children : List (ℕ × ℕ)) → list_all (is_below end) children ≡ true → All (λ child. (first ≤ child.0) × (child.0 < end)) children
All-below first end zero_first [] below = All-nil (λ (child : ℕ × ℕ). (first ≤ child.0) × (child.0 < end))
All-below first end zero_first (child ∷ children) below =
    let halves = and_parts (is_below end child) (list_all (is_below end) children) below in
    let before = ltb-true child.0 end halves.0 in
    let one : (first ≤ child.0) × (child.0 < end) = (omega (arith, zero_first), before) in
    All-cons (λ (child : ℕ × ℕ). (first ≤ child.0) × (child.0 < end)) child children one (All-below first end zero_first children halves.1)

pub children_stand : (first end : ℕ) → first ≡ 0 → (stack : List Value) (from : ℕ) (sources : List Source) → list_all (has_handles_below end) stack ≡ true
    → All (λ child. (first ≤ child.0) × (child.0 < end)) (children_in (drop from stack) sources)
children_stand first end zero_first stack from sources below =
    All-below first end zero_first (children_in (drop from stack) sources) (children-below end (drop from stack) sources (all-drop (has_handles_below end) from stack below))

-- Names

pub no_name-known : (names : List (List ℕ)) → slice_get names 0 ≡ Some [] → is_known names no_name ≡ true
no_name-known names empty = lt-ltb 0 (length names) (slice_get_within names 0 [] empty)

known_in : (names : List (List ℕ)) → slice_get names 0 ≡ Some [] → (stack : List Value) (depth : ℕ) → list_all (has_known_name names) stack ≡ true
    → is_known names (name_in (slice_get stack depth)) ≡ true
known_in names empty [] depth known = no_name-known names empty
known_in names empty (Word token name ∷ stack) zero known = (and_parts (is_known names name) (list_all (has_known_name names) stack) known).0
known_in names empty (Tree handle ∷ stack) zero known = no_name-known names empty
known_in names empty (kinds.List children ∷ stack) zero known = no_name-known names empty
known_in names empty (value ∷ stack) (suc depth) known = known_in names empty stack depth (and_parts (has_known_name names value) (list_all (has_known_name names) stack) known).1

pub known_at : (names : List (List ℕ)) → slice_get names 0 ≡ Some [] → (stack : List Value) (depth : ℕ) → list_all (has_known_name names) stack ≡ true
    → is_known names (name_in (slice_get (reverse stack) depth)) ≡ true
known_at names empty stack depth known = known_in names empty (reverse stack) depth (all-reverse (has_known_name names) stack known)

pub known_name : (names : List (List ℕ)) → slice_get names 0 ≡ Some [] → (stack : List Value) (depth : Option ℕ) → list_all (has_known_name names) stack ≡ true
    → is_known names (name_in_at (reverse stack) depth) ≡ true
known_name names empty stack None known = no_name-known names empty
known_name names empty stack (Some depth) known = known_at names empty stack depth known

-- Steps

module _ (names : List (List ℕ)) (list : NodeList NameId) (stack : List Value) (scopes : ScopeList NameId) (closed : List (ClosedList NameId)) (sound : IsSound names list stack scopes closed) where
  -- a value without nodes on top
  pub sound_pushed : (value : Value) → has_handles_below (length list.nodes) value ≡ true → has_known_name names value ≡ true
      → AreStacked list (value ∷ []) (end_of list) (end_of list) → IsSound names list (stack ++ value ∷ []) scopes closed
  sound_pushed value below known lies = record {
    first = sound.first;
    few = sound.few;
    handles = all-snoc (has_handles_below (length list.nodes)) stack value sound.handles below;
    laid = stacked-append list stack (value ∷ []) list.first (end_of list) (end_of list) sound.laid lies;
    words = all-snoc (has_known_name names) stack value sound.words known;
    node_names = sound.node_names;
    bound_names = sound.bound_names;
    closed_names = sound.closed_names;
  }

  -- a node and its tree in the place of the last values
  pub sound_made : (from : ℕ) (sources : List Source) (node : TreeNode NameId) → length list.nodes < 16000000 → is_known names node.name ≡ true
      → children_in (drop from stack) sources ≡ node.children → IsSound names (with_node list node) (take from stack ++ Tree (end_of list) ∷ []) scopes closed
  sound_made from sources node room known given =
      let one_more : length (list.nodes ++ node ∷ []) ≡ length list.nodes + 1 = length-append list.nodes (node ∷ []) in
      record {
        first = sound.first;
        few = omega (arith, one_more, room);
        handles = all-snoc (has_handles_below (length (list.nodes ++ node ∷ []))) (take from stack) (Tree (end_of list))
            (all-weaker (has_handles_below (length list.nodes)) (has_handles_below (length (list.nodes ++ node ∷ [])))
            (handles-later (length list.nodes) (length (list.nodes ++ node ∷ [])) (omega (arith, one_more))) (take from stack)
            (all-take (has_handles_below (length list.nodes)) from stack sound.handles))
            (lt-ltb (end_of list) (length (list.nodes ++ node ∷ [])) (let first = sound.first in omega (arith, one_more, first)));
        laid = stacked-made list stack from sources node given sound.laid;
        words = all-snoc (has_known_name names) (take from stack) (Tree (end_of list)) (all-take (has_known_name names) from stack sound.words) refl;
        node_names = all-snoc (λ (one : TreeNode NameId). is_known names one.name) list.nodes node sound.node_names known;
        bound_names = sound.bound_names;
        closed_names = sound.closed_names;
      }

  -- a list in the place of the last values
  pub sound_collected : (from : ℕ) (sources : List Source) → IsSound names list (take from stack ++ kinds.List (children_in (drop from stack) sources) ∷ []) scopes closed
  sound_collected from sources = record {
    first = sound.first;
    few = sound.few;
    handles = all-snoc (has_handles_below (length list.nodes)) (take from stack) (kinds.List (children_in (drop from stack) sources))
        (all-take (has_handles_below (length list.nodes)) from stack sound.handles)
        (children-below (length list.nodes) (drop from stack) sources (all-drop (has_handles_below (length list.nodes)) from stack sound.handles));
    laid = stacked-collected list stack from sources list.first (end_of list) sound.laid;
    words = all-snoc (has_known_name names) (take from stack) (kinds.List (children_in (drop from stack) sources)) (all-take (has_known_name names) from stack sound.words) refl;
    node_names = sound.node_names;
    bound_names = sound.bound_names;
    closed_names = sound.closed_names;
  }

  -- words go from the top
  pub sound_dropped : (count : ℕ) → AreWords (values_of names list stack) count → IsSound names list (take (length stack - count) stack) scopes closed
  sound_dropped count gone = record {
    first = sound.first;
    few = sound.few;
    handles = all-take (has_handles_below (length list.nodes)) (length stack - count) stack sound.handles;
    laid = stacked-below list names stack count list.first (end_of list) gone sound.laid;
    words = all-take (has_known_name names) (length stack - count) stack sound.words;
    node_names = sound.node_names;
    bound_names = sound.bound_names;
    closed_names = sound.closed_names;
  }

  -- the tree of a list below words, in the place of the list and the words
  pub sound_unwrapped : (depth handle : ℕ) → AreWords (values_of names list stack) depth → only_in (slice_get (reverse stack) depth) ≡ Some handle
      → IsSound names list (take (length stack - (depth + 1)) stack ++ Tree handle ∷ []) scopes closed
  sound_unwrapped depth handle gone is =
      let from = length stack - (depth + 1) in
      record {
        first = sound.first;
        few = sound.few;
        handles = all-snoc (has_handles_below (length list.nodes)) (take from stack) (Tree handle)
            (all-take (has_handles_below (length list.nodes)) from stack sound.handles) (only-below (length list.nodes) stack depth handle sound.handles is);
        laid = stacked-unwrapped list names stack depth handle list.first (end_of list) gone is sound.laid;
        words = all-snoc (has_known_name names) (take from stack) (Tree handle) (all-take (has_known_name names) from stack sound.words) refl;
        node_names = sound.node_names;
        bound_names = sound.bound_names;
        closed_names = sound.closed_names;
      }

  -- other names that are known are bound
  pub sound_bound : (others : ScopeList NameId) (lists : List (ClosedList NameId)) → all_named (is_known names) others ≡ true
      → list_all (λ (one : ClosedList NameId). has_known_entries names one.entries) lists ≡ true → IsSound names list stack others lists
  sound_bound others lists bound kept = record {
    first = sound.first;
    few = sound.few;
    handles = sound.handles;
    laid = sound.laid;
    words = sound.words;
    node_names = sound.node_names;
    bound_names = bound;
    closed_names = kept;
  }

-- The value that is taken

pub small_here : (all now : List Value) (place : ℕ) (value : Value) → list_all is_small all ≡ true → drop place now ≡ drop place all → place < length now
    → value ≡ get_or now place value → is_small value ≡ true
small_here all now place value small same inside is =
    let rest : list_all is_small (drop place now) ≡ true = ap (list_all is_small) same ∙ all-drop is_small place all small in
    let front : drop place now ≡ get_or now place value ∷ drop (place + 1) now = drop_more now place value inside in
    ap is_small is ∙ (and_parts (is_small (get_or now place value)) (list_all is_small (drop (place + 1) now)) (sym (ap (list_all is_small) front) ∙ rest)).0

-- what holds where a call succeeded
pub from_ok : {X E P : Type 0} (result : Result X E) → is_err result ≡ false → OnOk result P → P
from_ok (Ok x) good holds = holds
from_ok (Err e) bad holds = absurd (cc bad)
