-- Lists that are joined are seen as one list, and all goes on being sound.
use Rattle.std.proofs.Common.{◌≡◌, ℕ, zero, suc, ◌-◌, ◌<◌, ◌≤◌, Bool, true, ◌&&◌, List, [], ◌∷◌, ◌++◌, map, reverse, take, drop, length, slice_get, Option, Some, None, refl, sym, ap, ap₂, subst, ◌∙◌, arith, append_assoc}
use Rattle.std.specs.List.{list_all}
use Rattle.std.proofs.lemmas.Bool.{and_parts, ltb-true}
use Rattle.std.proofs.lemmas.List.{length-take-le}
use Rattle.std.proofs.lemmas.List.Folds.{list_all-append}
use Rattle.std.proofs.lemmas.Option.{same_Some}
use Rattle.vocabulary.specs.Roles.{role_of}
use Rattle.meaning_tree.specs.Trees.{SyntaxTree, Node, Parts, Part}
use Rattle.meaning_tree.specs.Nodes.{NodeList, end_of}
use Rattle.meaning_tree.specs.Listed.{tree_at, parts_at}
use Rattle.meaning_scopes.specs.Scopes.{ScopeList}
use Rattle.meaning_grammar.specs.Sorts.{AList}
use Rattle.meaning_derivation.specs.Values.{WordValue, ListValue, parts_of, sort_of, stands_at, value_at}
use Rattle.meaning_derivation.specs.Values as values
use Rattle.meaning_derivation.specs.State.{ClosedList, with_value, with_values}
use Rattle.meaning_derivation.specs.Lists.{reversed_before, suffixed, first_tree_token}
use Rattle.sparse_model.specs.declared.ids.NameId.{NameId}
use Rattle.c_tokens.specs.Seen.{text_of}
use Rattle.parse_state.specs.declared.value.Value.{Value}
use Rattle.parse_state.specs.declared.value.Value.TheVariants.{Word, Tree}
use Rattle.parse_state.specs.declared.value.Value.TheVariants as kinds
use Rattle.parse_state.specs.declared.shape.Source.{Source}
use Rattle.parse_state.specs.Lying.{AreStacked}
use Rattle.parse_state.specs.Seen.{Read, state_of, value_of, values_of, spelled_trees}
use Rattle.parse_state.specs.Sources.{IsCovered, parts_given}
use Rattle.parse_state.specs.Giving.{is_below, has_handles_below, children_in}
use Rattle.parse_state.specs.Making.{start_of}
use Rattle.parse_state.specs.Asking.{token_in, name_in}
use Rattle.parse_state.specs.Joining.{EndsInLists, children_of, suffixes_before, word_at, first_child}
use Rattle.parse_state.specs.Soundness.{is_known, has_known_name, IsSound}
use Rattle.parse_state.proofs.Stacks.{reverse-cons, reverse-snoc, all-reverse, all-drop, all-take, first_ones, last_ones}
use Rattle.parse_state.proofs.Seeing.{seen, value_at-seen, token_at, text_at, values_of-pushed, values_of-below, values_of-collected}
use Rattle.parse_state.proofs.Covering.{children-given, last_sorts}
use Rattle.parse_state.proofs.Making.{with_stack}
use Rattle.parse_state.proofs.Lying.{stacked-append, stacked-halves, stacked-turned, children-stacked}
use Rattle.parse_state.proofs.Sound.{all-snoc, children-below}

-- The last values

take-take : {X : Type 0} (count more : ℕ) (xs : List X) → count ≤ more → take count (take more xs) ≡ take count xs
take-take zero more xs less = refl
take-take (suc count) zero xs less = absurd (omega (arith, less))
take-take (suc count) (suc more) [] less = refl
take-take (suc count) (suc more) (x ∷ xs) less = ap (λ rest. x ∷ rest) (take-take count more xs (omega (arith, less)))

-- two that are taken one after the other
pub taken_twice : {X : Type 0} (xs : List X) → take (length (take (length xs - 1) xs) - 1) (take (length xs - 1) xs) ≡ take (length xs - 2) xs
taken_twice xs =
    let one : length (take (length xs - 1) xs) ≡ length xs - 1 = length-take-le (length xs - 1) xs (omega arith) in
    ap (λ count. take count (take (length xs - 1) xs)) (omega (arith, one)) ∙ take-take (length xs - 2) (length xs - 1) xs (omega arith)

second_of : {X : Type 0} (xs : List X) → slice_get (drop 1 xs) 0 ≡ slice_get xs 1
second_of [] = refl
second_of (x ∷ xs) = refl

-- the last one of the others
pub second_last : {X : Type 0} (xs : List X) → slice_get (reverse (take (length xs - 1) xs)) 0 ≡ slice_get (reverse xs) 1
second_last xs = ap (λ top. slice_get top 0) (sym (first_ones xs 1)) ∙ second_of (reverse xs)

pub last_of : {X : Type 0} (xs front : List X) (x : X) → xs ≡ front ++ x ∷ [] → slice_get (reverse xs) 0 ≡ Some x
last_of xs front x is = ap (λ all. slice_get (reverse all) 0) is ∙ ap (λ top. slice_get top 0) (reverse-snoc front x)

-- How lists are seen

module _ (trees : List SyntaxTree) where
  -- children the other way round, before others
  parts_at-turned : (children more : List (ℕ × ℕ)) → parts_at trees (reverse children ++ more) ≡ reversed_before (parts_at trees children) (parts_at trees more)
  parts_at-turned [] more = refl
  parts_at-turned (child ∷ children) more =
      ap (parts_at trees) (ap (λ front. front ++ more) (reverse-cons child children) ∙ append_assoc (reverse children) (child ∷ []) more)
      ∙ parts_at-turned children (child ∷ more)

  children_of-seen : (names : List (List ℕ)) (found : Option Value) → parts_of (seen (value_of names trees) found) ≡ parts_at trees (children_of found)
  children_of-seen names None = refl
  children_of-seen names (Some (Word token name)) = refl
  children_of-seen names (Some (Tree handle)) = refl
  children_of-seen names (Some (kinds.List children)) = refl

  pub children_at : (names : List (List ℕ)) (stack : List Value) (depth : ℕ)
      → parts_of (value_at (map (value_of names trees) stack) depth) ≡ parts_at trees (children_of (slice_get stack depth))
  children_at names stack depth = ap parts_of (value_at-seen (value_of names trees) stack depth) ∙ children_of-seen names (slice_get stack depth)

-- Steps

-- a word stays, and behind it a list comes in the place of the last values
pub behind_is : (read : Read) (takes word : ℕ) (sources : List Source) → slice_get read.names 0 ≡ Some [] → IsCovered (state_of read).values takes sources
    → state_of (with_stack read ((take (start_of read.stack takes) read.stack
    ++ Word (token_in (slice_get (reverse read.stack) word)) (name_in (slice_get (reverse read.stack) word)) ∷ [])
    ++ kinds.List (children_in (drop (start_of read.stack takes) read.stack) sources) ∷ []))
    ≡ with_values (state_of read) (ListValue (parts_given (state_of read).values sources) ∷ word_at (state_of read).values word ∷ drop takes (state_of read).values)
behind_is read takes word sources empty covered =
    let trees : List SyntaxTree = spelled_trees read.names read.list in
    let token : ℕ = token_in (slice_get (reverse read.stack) word) in
    let name : NameId = name_in (slice_get (reverse read.stack) word) in
    let front : List Value = take (start_of read.stack takes) read.stack in
    let children : List (ℕ × ℕ) = children_in (drop (start_of read.stack takes) read.stack) sources in
    let below : WordValue token (text_of read.names name) ≡ word_at (state_of read).values word =
    ap₂ WordValue (sym (token_at read.names trees (reverse read.stack) word)) (sym (text_at read.names trees empty (reverse read.stack) word)) in
    ap (λ (stacked : List values.Value). record (state_of read) { values = stacked })
    (values_of-pushed read.names read.list (front ++ Word token name ∷ []) (kinds.List children)
    ∙ ap₂ (λ (parts : Parts (List ℕ)) (rest : List values.Value). ListValue parts ∷ rest) (children-given read.names read.list read.stack takes sources covered)
    (values_of-pushed read.names read.list front (Word token name)
    ∙ ap₂ (λ (one : values.Value) (rest : List values.Value). one ∷ rest) below (values_of-below read.names read.list read.stack takes)))

-- the last list is turned round, before the one below it
pub turned_is : (read : Read)
    → state_of (with_stack read (take (start_of read.stack 2) read.stack ++ kinds.List (suffixes_before read.stack) ∷ []))
    ≡ with_value (state_of read) 2 (suffixed (value_at (state_of read).values 0) (value_at (state_of read).values 1))
turned_is read =
    let trees : List SyntaxTree = spelled_trees read.names read.list in
    let top : List Value = reverse read.stack in
    ap (λ (stacked : List values.Value). record (state_of read) { values = stacked })
    (values_of-collected read.names read.list read.stack 2 (suffixes_before read.stack)
    ∙ ap (λ (parts : Parts (List ℕ)). ListValue parts ∷ drop 2 (state_of read).values)
    (parts_at-turned trees (children_of (slice_get top 0)) (children_of (slice_get top 1))
    ∙ ap₂ reversed_before (sym (children_at trees read.names top 0)) (sym (children_at trees read.names top 1))))

-- Handles

children-within : (end : ℕ) (stack : List Value) (depth : ℕ) → list_all (has_handles_below end) stack ≡ true → list_all (is_below end) (children_of (slice_get stack depth)) ≡ true
children-within end [] depth below = refl
children-within end (value ∷ stack) zero below = here value (and_parts (has_handles_below end value) (list_all (has_handles_below end) stack) below).0
  where
    here : (one : Value) → has_handles_below end one ≡ true → list_all (is_below end) (children_of (Some one)) ≡ true
    here (Word token name) known = refl
    here (Tree handle) known = refl
    here (kinds.List children) known = known
children-within end (value ∷ stack) (suc depth) below =
    children-within end stack depth (and_parts (has_handles_below end value) (list_all (has_handles_below end) stack) below).1

-- those of a list on the stack are known
pub children_of-below : (end : ℕ) (stack : List Value) (depth : ℕ) → list_all (has_handles_below end) stack ≡ true
    → list_all (is_below end) (children_of (slice_get (reverse stack) depth)) ≡ true
children_of-below end stack depth below = children-within end (reverse stack) depth (all-reverse (has_handles_below end) stack below)

suffixes-below : (end : ℕ) (stack : List Value) → list_all (has_handles_below end) stack ≡ true → list_all (is_below end) (suffixes_before stack) ≡ true
suffixes-below end stack below =
    let suffixes : List (ℕ × ℕ) = children_of (slice_get (reverse stack) 0) in
    list_all-append (is_below end) (reverse suffixes) (children_of (slice_get (reverse stack) 1))
    ∙ ap₂ (λ (front back : Bool). front && back) (all-reverse (is_below end) suffixes (children_of-below end stack 0 below)) (children_of-below end stack 1 below)

-- The two lists on top

two_lists : (names : List (List ℕ)) (trees : List SyntaxTree) (found : List Value) → map (λ (value : Value). sort_of (value_of names trees value)) found ≡ AList ∷ AList ∷ []
    → (inner : List (ℕ × ℕ)) × (suffixes : List (ℕ × ℕ)) × (found ≡ kinds.List inner ∷ kinds.List suffixes ∷ [])
two_lists names trees [] is = absurd (cc is)
two_lists names trees (one ∷ []) is = absurd (cc is)
two_lists names trees (Word token name ∷ other ∷ found) is = absurd (cc is)
two_lists names trees (Tree handle ∷ other ∷ found) is = absurd (cc is)
two_lists names trees (kinds.List inner ∷ Word token name ∷ found) is = absurd (cc is)
two_lists names trees (kinds.List inner ∷ Tree handle ∷ found) is = absurd (cc is)
two_lists names trees (kinds.List inner ∷ kinds.List suffixes ∷ []) is = (inner, suffixes, refl)
two_lists names trees (kinds.List inner ∷ kinds.List suffixes ∷ another ∷ found) is = absurd (cc is)

lists_end : (names : List (List ℕ)) (list : NodeList NameId) (stack : List Value) → EndsInLists (values_of names list stack)
    → (inner : List (ℕ × ℕ)) × (suffixes : List (ℕ × ℕ)) × (drop (start_of stack 2) stack ≡ kinds.List inner ∷ kinds.List suffixes ∷ [])
lists_end names list stack lists =
    two_lists names (spelled_trees names list) (drop (start_of stack 2) stack) (sym (last_sorts names (spelled_trees names list) stack 2) ∙ ap reverse lists)

first_two : {X : Type 0} (xs : List X) (first second : X) → take 2 xs ≡ first ∷ second ∷ [] → (slice_get xs 0 ≡ Some first) × (slice_get xs 1 ≡ Some second)
first_two [] first second is = absurd (cc is)
first_two (x ∷ []) first second is = absurd (cc is)
first_two (x ∷ other ∷ xs) first second is = (ap Some (cc is), ap Some (cc is))

suffixes_are : (stack : List Value) (inner suffixes : List (ℕ × ℕ)) → drop (start_of stack 2) stack ≡ kinds.List inner ∷ kinds.List suffixes ∷ []
    → suffixes_before stack ≡ reverse suffixes ++ inner
suffixes_are stack inner suffixes is =
    let top = first_two (reverse stack) (kinds.List suffixes) (kinds.List inner) (last_ones stack 2 ∙ ap reverse is) in
    ap₂ (λ (last below : Option Value). reverse (children_of last) ++ children_of below) top.0 top.1

-- All goes on being sound

module _ (names : List (List ℕ)) (list : NodeList NameId) (stack : List Value) (scopes : ScopeList NameId) (closed : List (ClosedList NameId)) (sound : IsSound names list stack scopes closed) where
  pub sound_turned : EndsInLists (values_of names list stack) → IsSound names list (take (start_of stack 2) stack ++ kinds.List (suffixes_before stack) ∷ []) scopes closed
  sound_turned lists =
      let from = start_of stack 2 in
      let found = lists_end names list stack lists in
      record {
        first = sound.first;
        few = sound.few;
        handles = all-snoc (has_handles_below (length list.nodes)) (take from stack) (kinds.List (suffixes_before stack))
            (all-take (has_handles_below (length list.nodes)) from stack sound.handles) (suffixes-below (length list.nodes) stack sound.handles);
        laid = subst (λ (children : List (ℕ × ℕ)). AreStacked list (take from stack ++ kinds.List children ∷ []) list.first (end_of list))
            (sym (suffixes_are stack found.0 found.1 found.2)) (stacked-turned list stack from found.0 found.1 list.first (end_of list) found.2 sound.laid);
        words = all-snoc (has_known_name names) (take from stack) (kinds.List (suffixes_before stack)) (all-take (has_known_name names) from stack sound.words) refl;
        node_names = sound.node_names;
        bound_names = sound.bound_names;
        closed_names = sound.closed_names;
      }

  pub sound_behind : (from token : ℕ) (name : NameId) (sources : List Source) → is_known names name ≡ true
      → IsSound names list ((take from stack ++ Word token name ∷ []) ++ kinds.List (children_in (drop from stack) sources) ∷ []) scopes closed
  sound_behind from token name sources known =
      let front = take from stack ++ Word token name ∷ [] in
      let children = kinds.List (children_in (drop from stack) sources) in
      let halves = stacked-halves list stack from list.first (end_of list) sound.laid in
      record {
        first = sound.first;
        few = sound.few;
        handles = all-snoc (has_handles_below (length list.nodes)) front children
            (all-snoc (has_handles_below (length list.nodes)) (take from stack) (Word token name) (all-take (has_handles_below (length list.nodes)) from stack sound.handles) refl)
            (children-below (length list.nodes) (drop from stack) sources (all-drop (has_handles_below (length list.nodes)) from stack sound.handles));
        laid = stacked-append list front (children ∷ []) list.first halves.0 (end_of list)
            (stacked-append list (take from stack) (Word token name ∷ []) list.first halves.0 halves.0 halves.1 refl)
            (end_of list, children-stacked list (drop from stack) sources halves.0 (end_of list) halves.2, refl);
        words = all-snoc (has_known_name names) front children
            (all-snoc (has_known_name names) (take from stack) (Word token name) (all-take (has_known_name names) from stack sound.words) known) refl;
        node_names = sound.node_names;
        bound_names = sound.bound_names;
        closed_names = sound.closed_names;
      }

-- The first tree of a list

first_of : (tree : SyntaxTree) (tag : ℕ) (parts : Parts (List ℕ)) → first_tree_token (Part (role_of tag) tree parts) ≡ stands_at (values.TreeValue tree)
first_of (Node kind token name number children) tag parts = refl

pub first_stands : (trees : List SyntaxTree) (children : List (ℕ × ℕ)) (handle : ℕ) → first_child children ≡ Some handle
    → first_tree_token (parts_at trees children) ≡ stands_at (values.TreeValue (tree_at trees handle))
first_stands trees [] handle is = absurd (cc is)
first_stands trees (child ∷ children) handle is =
    first_of (tree_at trees child.0) child.1 (parts_at trees children) ∙ ap (λ one. stands_at (values.TreeValue (tree_at trees one))) (same_Some _ _ is)

pub none_stands : (trees : List SyntaxTree) (children : List (ℕ × ℕ)) → first_child children ≡ None → first_tree_token (parts_at trees children) ≡ 0
none_stands trees [] is = refl
none_stands trees (child ∷ children) is = absurd (cc is)

pub first_below : (end : ℕ) (children : List (ℕ × ℕ)) (handle : ℕ) → list_all (is_below end) children ≡ true → first_child children ≡ Some handle → handle < end
first_below end [] handle below is = absurd (cc is)
first_below end (child ∷ children) handle below is =
    subst (λ one. one < end) (same_Some _ _ is) (ltb-true child.0 end (and_parts (is_below end child) (list_all (is_below end) children) below).0)

-- a list of at most one is the same from the back
pub turned-few : {X : Type 0} (xs : List X) → length xs < 2 → xs ≡ reverse xs
turned-few [] few = refl
turned-few (x ∷ []) few = refl
turned-few (x ∷ other ∷ xs) few = absurd (omega (arith, few))
