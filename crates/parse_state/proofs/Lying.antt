-- Values go on lying one behind the other.
use Rattle.std.proofs.Common.{◌≡◌, ℕ, zero, suc, ◌+◌, ◌-◌, true, List, [], ◌∷◌, ◌++◌, map, reverse, take, drop, length, slice_get, Option, Some, None, refl, sym, ap, subst, ◌∙◌, arith}
use Rattle.std.specs.List.{list_all}
use Rattle.std.proofs.lemmas.List.{take-append-drop, reverse-reverse}
use Rattle.std.proofs.lemmas.Option.{same_Some}
use Rattle.meaning_tree.specs.Trees.{SyntaxTree}
use Rattle.meaning_tree.specs.Nodes.{TreeNode, NodeList, end_of, Grows, with_node}
use Rattle.meaning_tree.specs.Runs.{IsRun, AreRuns, no_runs, last_run}
use Rattle.meaning_tree.proofs.Finding.{Grows-added, end_of-added}
use Rattle.meaning_tree.proofs.Runs.{run-stays, runs-stay, run-added, run-alone, runs-before, runs-behind, runs-reversed}
use Rattle.meaning_derivation.specs.Values.{sort_of, sorts_of}
use Rattle.sparse_model.specs.declared.ids.NameId.{NameId}
use Rattle.vocabulary.specs.Roles.{role_tag}
use Rattle.parse_state.specs.declared.value.Value.{Value}
use Rattle.parse_state.specs.declared.value.Value.TheVariants.{Word, Tree}
use Rattle.parse_state.specs.declared.value.Value.TheVariants as kinds
use Rattle.parse_state.specs.declared.shape.Source.{Source}
use Rattle.parse_state.specs.Giving.{first_role, left_behind, children_in}
use Rattle.parse_state.specs.Lying.{AreStacked, is_word_sort, AreWords}
use Rattle.parse_state.specs.OnlyTrees.{only_in}
use Rattle.parse_state.specs.Seen.{value_of, values_of, spelled_trees}
use Rattle.parse_state.proofs.Covering.{last_sorts}
use Rattle.parse_state.proofs.Stacks.{all-reverse, last_ones, reverse-snoc}

-- The value at a place below the top

take_next : {X : Type 0} (xs : List X) (place : ℕ) (x : X) → slice_get xs place ≡ Some x → take (suc place) xs ≡ take place xs ++ x ∷ []
take_next [] place x is = absurd (cc is)
take_next (first ∷ xs) zero x is = ap (λ one. one ∷ []) (same_Some first x is)
take_next (first ∷ xs) (suc place) x is = ap (λ rest. first ∷ rest) (take_next xs place x is)

top_one : {X : Type 0} (stack : List X) (depth : ℕ) (x : X) → slice_get (reverse stack) depth ≡ Some x
    → drop (length stack - (depth + 1)) stack ≡ x ∷ drop (length stack - depth) stack
top_one stack depth x is =
    let one : length stack - (depth + 1) ≡ length stack - suc depth = omega arith in
    ap (λ from. drop from stack) one
    ∙ sym (reverse-reverse (drop (length stack - suc depth) stack))
    ∙ ap reverse (sym (last_ones stack (suc depth)) ∙ take_next (reverse stack) depth x is ∙ ap (λ front. front ++ x ∷ []) (last_ones stack depth))
    ∙ reverse-snoc (reverse (drop (length stack - depth) stack)) x
    ∙ ap (λ rest. x ∷ rest) (reverse-reverse (drop (length stack - depth) stack))

only_value : (found : Option Value) (handle : ℕ) → only_in found ≡ Some handle → (child : ℕ × ℕ) × (found ≡ Some (kinds.List (child ∷ []))) × (child.0 ≡ handle)
only_value None handle is = absurd (cc is)
only_value (Some (Word token name)) handle is = absurd (cc is)
only_value (Some (Tree other)) handle is = absurd (cc is)
only_value (Some (kinds.List [])) handle is = absurd (cc is)
only_value (Some (kinds.List (child ∷ []))) handle is = (child, refl, same_Some child.0 handle is)
only_value (Some (kinds.List (child ∷ other ∷ children))) handle is = absurd (cc is)

-- One child alone

alone : (front back : List (ℕ × ℕ)) (last child : ℕ × ℕ) → front ++ last ∷ back ≡ child ∷ [] → (front ++ back ≡ []) × (last ≡ child)
alone [] [] last child is = (refl, cc is)
alone [] (next ∷ back) last child is = absurd (cc is)
alone (next ∷ []) back last child is = absurd (cc is)
alone (next ∷ other ∷ front) back last child is = absurd (cc is)

not_empty : (front back : List (ℕ × ℕ)) (last : ℕ × ℕ) → front ++ last ∷ back ≡ [] → ⊥
not_empty [] back last is = absurd (cc is)
not_empty (next ∷ front) back last is = absurd (cc is)

module _ (list : NodeList NameId) where
  -- values behind others
  pub stacked-append : (front back : List Value) (first middle end : ℕ) → AreStacked list front first middle → AreStacked list back middle end
      → AreStacked list (front ++ back) first end
  stacked-append [] back first middle end front behind = subst (λ (from : ℕ). AreStacked list back from end) (sym front) behind
  stacked-append (Word token name ∷ values) back first middle end front behind = stacked-append values back first middle end front behind
  stacked-append (Tree handle ∷ values) back first middle end front behind = (front.0, stacked-append values back (handle + 1) middle end front.1 behind)
  stacked-append (kinds.List children ∷ values) back first middle end front behind =
      (front.0, front.1, stacked-append values back front.0 middle end front.2 behind)

  -- and taken apart
  pub stacked-parted : (front back : List Value) (first end : ℕ) → AreStacked list (front ++ back) first end
      → (middle : ℕ) × AreStacked list front first middle × AreStacked list back middle end
  stacked-parted [] back first end stacked = (first, refl, stacked)
  stacked-parted (Word token name ∷ values) back first end stacked = stacked-parted values back first end stacked
  stacked-parted (Tree handle ∷ values) back first end stacked =
      let rest = stacked-parted values back (handle + 1) end stacked.1 in (rest.0, (stacked.0, rest.1), rest.2)
  stacked-parted (kinds.List children ∷ values) back first end stacked =
      let rest = stacked-parted values back stacked.0 end stacked.2 in (rest.0, (stacked.0, stacked.1, rest.1), rest.2)

  pub stacked-halves : (values : List Value) (count first end : ℕ) → AreStacked list values first end
      → (middle : ℕ) × AreStacked list (take count values) first middle × AreStacked list (drop count values) middle end
  stacked-halves values count first end stacked =
      stacked-parted (take count values) (drop count values) first end
      (subst (λ (all : List Value). AreStacked list all first end) (sym (take-append-drop count values)) stacked)

  -- what values give has runs where they have
  pub children-stacked : (values : List Value) (sources : List Source) (first end : ℕ) → AreStacked list values first end → AreRuns list (children_in values sources) first end
  children-stacked [] sources first end stacked = subst (λ (last : ℕ). AreRuns list [] first last) stacked no_runs
  children-stacked (Word token name ∷ values) sources first end stacked = children-stacked values sources first end stacked
  children-stacked (Tree handle ∷ values) sources first end stacked =
      let child : ℕ × ℕ = (handle, role_tag (first_role sources)) in
      runs-behind list (child ∷ []) (run-alone list child stacked.0) (children-stacked values (left_behind (Tree handle) sources) (handle + 1) end stacked.1)
  children-stacked (kinds.List children ∷ values) sources first end stacked =
      runs-behind list children stacked.1 (children-stacked values (left_behind (kinds.List children) sources) stacked.0 end stacked.2)

  -- words have no nodes
  words-stacked : (names : List (List ℕ)) (trees : List SyntaxTree) (values : List Value) (first end : ℕ)
      → list_all is_word_sort (map (λ (value : Value). sort_of (value_of names trees value)) values) ≡ true → AreStacked list values first end → first ≡ end
  words-stacked names trees [] first end words stacked = stacked
  words-stacked names trees (Word token name ∷ values) first end words stacked = words-stacked names trees values first end words stacked
  words-stacked names trees (Tree handle ∷ values) first end words stacked = absurd (cc words)
  words-stacked names trees (kinds.List children ∷ values) first end words stacked = absurd (cc words)

  top_words : (names : List (List ℕ)) (stack : List Value) (count : ℕ) → AreWords (values_of names list stack) count
      → list_all is_word_sort (map (λ (value : Value). sort_of (value_of names (spelled_trees names list) value)) (drop (length stack - count) stack)) ≡ true
  top_words names stack count words =
      sym (ap (list_all is_word_sort) (last_sorts names (spelled_trees names list) stack count))
      ∙ all-reverse is_word_sort (take count (sorts_of (values_of names list stack))) words

  -- so the values below words lie as all do
  pub stacked-below : (names : List (List ℕ)) (stack : List Value) (count first end : ℕ) → AreWords (values_of names list stack) count
      → AreStacked list stack first end → AreStacked list (take (length stack - count) stack) first end
  stacked-below names stack count first end words stacked =
      let halves = stacked-halves stack (length stack - count) first end stacked in
      let none = words-stacked names (spelled_trees names list) (drop (length stack - count) stack) halves.0 end (top_words names stack count words) halves.2 in
      subst (λ (last : ℕ). AreStacked list (take (length stack - count) stack) first last) none halves.1

  -- a list of what the values from a place on give lies in their place
  pub stacked-collected : (stack : List Value) (from : ℕ) (sources : List Source) (first end : ℕ) → AreStacked list stack first end
      → AreStacked list (take from stack ++ kinds.List (children_in (drop from stack) sources) ∷ []) first end
  stacked-collected stack from sources first end stacked =
      let halves = stacked-halves stack from first end stacked in
      stacked-append (take from stack) (kinds.List (children_in (drop from stack) sources) ∷ []) first halves.0 end halves.1
      (end, children-stacked (drop from stack) sources halves.0 end halves.2, refl)

  -- so does one of the children of two lists, those of the later one first and the other way round
  pub stacked-turned : (stack : List Value) (from : ℕ) (inner suffixes : List (ℕ × ℕ)) (first end : ℕ) → drop from stack ≡ kinds.List inner ∷ kinds.List suffixes ∷ []
      → AreStacked list stack first end → AreStacked list (take from stack ++ kinds.List (reverse suffixes ++ inner) ∷ []) first end
  stacked-turned stack from inner suffixes first end is stacked =
      let halves = stacked-halves stack from first end stacked in
      let behind = subst (λ (values : List Value). AreStacked list values halves.0 end) is halves.2 in
      stacked-append (take from stack) (kinds.List (reverse suffixes ++ inner) ∷ []) first halves.0 end halves.1
      (behind.2.0, runs-before list inner behind.1 (runs-reversed list behind.2.1), behind.2.2)

  runs-of_none : {children : List (ℕ × ℕ)} {first end : ℕ} → AreRuns list children first end → children ≡ [] → first ≡ end
  runs-of_none no_runs is = refl
  runs-of_none (last_run front back last middle runs one) is = absurd (not_empty front back last is)

  pub run-of_one : {children : List (ℕ × ℕ)} {first end : ℕ} → AreRuns list children first end → (child : ℕ × ℕ) → children ≡ child ∷ []
      → IsRun list first child.0 × (child.0 + 1 ≡ end)
  run-of_one no_runs child is = absurd (cc is)
  run-of_one (last_run front back last middle runs one) child is =
      let found = alone front back last child is in
      let here = runs-of_none runs found.0 in (
        subst (λ (begins : ℕ). IsRun list begins child.0) (sym here) (subst (λ (it : ℕ × ℕ). IsRun list middle it.0) found.1 one),
        ap (λ (it : ℕ × ℕ). it.0 + 1) (sym found.1),
      )

  -- and the tree of a list that has no other one lies where the list does
  pub stacked-unwrapped : (names : List (List ℕ)) (stack : List Value) (depth handle first end : ℕ) → AreWords (values_of names list stack) depth
      → only_in (slice_get (reverse stack) depth) ≡ Some handle → AreStacked list stack first end
      → AreStacked list (take (length stack - (depth + 1)) stack ++ Tree handle ∷ []) first end
  stacked-unwrapped names stack depth handle first end words is stacked =
      let from = length stack - (depth + 1) in
      let found = only_value (slice_get (reverse stack) depth) handle is in
      let halves = stacked-halves stack from first end stacked in
      let behind = subst (λ (values : List Value). AreStacked list values halves.0 end) (top_one stack depth (kinds.List (found.0 ∷ [])) found.1) halves.2 in
      let none = words-stacked names (spelled_trees names list) (drop (length stack - depth) stack) behind.0 end (top_words names stack depth words) behind.2 in
      let one = run-of_one behind.1 found.0 refl in
      let ends : handle + 1 ≡ end = ap (λ (root : ℕ). root + 1) (sym found.2) ∙ one.1 ∙ none in
      stacked-append (take from stack) (Tree handle ∷ []) first halves.0 end halves.1 (subst (λ (root : ℕ). IsRun list halves.0 root) found.2 one.0, ends)

-- values lie as they did where nodes are added
module _ (before after : NodeList NameId) (grows : Grows before after) where
  stacked-stays : (values : List Value) (first end : ℕ) → AreStacked before values first end → AreStacked after values first end
  stacked-stays [] first end stacked = stacked
  stacked-stays (Word token name ∷ values) first end stacked = stacked-stays values first end stacked
  stacked-stays (Tree handle ∷ values) first end stacked = (run-stays before after grows stacked.0, stacked-stays values (handle + 1) end stacked.1)
  stacked-stays (kinds.List children ∷ values) first end stacked =
      (stacked.0, runs-stay before after grows stacked.1, stacked-stays values stacked.0 end stacked.2)

-- a node of what the values from a place on give lies in their place
pub stacked-made : (list : NodeList NameId) (stack : List Value) (from : ℕ) (sources : List Source) (node : TreeNode NameId)
    → children_in (drop from stack) sources ≡ node.children → AreStacked list stack list.first (end_of list)
    → AreStacked (with_node list node) (take from stack ++ Tree (end_of list) ∷ []) list.first (end_of (with_node list node))
stacked-made list stack from sources node given stacked =
    let halves = stacked-halves list stack from list.first (end_of list) stacked in
    let runs = subst (λ (children : List (ℕ × ℕ)). AreRuns list children halves.0 (end_of list)) given (children-stacked list (drop from stack) sources halves.0 (end_of list) halves.2) in
    stacked-append (with_node list node) (take from stack) (Tree (end_of list) ∷ []) list.first halves.0 (end_of (with_node list node))
    (stacked-stays list (with_node list node) (Grows-added list node) (take from stack) list.first halves.0 halves.1)
    (run-added list node halves.0 runs, sym (end_of-added list node))
