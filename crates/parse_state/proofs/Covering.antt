-- The children that values give make the parts that their sources say.
use Rattle.std.proofs.Common.{◌≡◌, ℕ, zero, suc, ◌-◌, true, nat_eq, List, [], ◌∷◌, ◌++◌, map, reverse, take, drop, length, refl, sym, ap, ◌∙◌, arith, append_assoc}
use Rattle.std.proofs.lemmas.Bool.{and_parts, eqb-true}
use Rattle.std.proofs.lemmas.List.{length-map, length-reverse, map-append, reverse-append, reverse-reverse, take-append-drop, take-map}
use Rattle.vocabulary.specs.declared.role.Role.{Role}
use Rattle.vocabulary.specs.declared.role.Role.TheVariants.{Evaluated, Condition, TypePart, Unevaluated}
use Rattle.vocabulary.specs.Roles.{role_tag, role_of}
use Rattle.meaning_tree.specs.Trees.{SyntaxTree, Parts, NoParts, Part, with_parts}
use Rattle.meaning_tree.specs.Nodes.{NodeList}
use Rattle.meaning_tree.specs.Listed.{tree_at, parts_at}
use Rattle.meaning_tree.proofs.Listing.{with_parts-NoParts, parts_at-append}
use Rattle.meaning_grammar.specs.Sorts.{Sort}
use Rattle.meaning_derivation.specs.Values.{sort_of, sorts_of, before, parts_of}
use Rattle.meaning_derivation.specs.Values as values
use Rattle.sparse_model.specs.declared.ids.NameId.{NameId}
use Rattle.parse_state.specs.declared.value.Value.{Value}
use Rattle.parse_state.specs.declared.value.Value.TheVariants.{Word, Tree}
use Rattle.parse_state.specs.declared.value.Value.TheVariants as kinds
use Rattle.parse_state.specs.declared.shape.Source.{Source}
use Rattle.parse_state.specs.declared.shape.Source.TheVariants.{OneTree, AllTrees}
use Rattle.parse_state.specs.Seen.{value_of, values_of, spelled_trees}
use Rattle.parse_state.specs.Sources.{covers, IsCovered, parts_given}
use Rattle.parse_state.specs.Giving.{children_in}
use Rattle.parse_state.proofs.Stacks.{reverse-cons, map-reverse, map-map, last_ones}

-- the parts of sources, alike for the last one and for others
abbrev gathered : List values.Value → List Source → Parts (List ℕ)
gathered stack [] = NoParts
gathered stack (OneTree role depth ∷ sources) = before role (values.value_at stack depth) (gathered stack sources)
gathered stack (AllTrees depth ∷ sources) = with_parts (parts_of (values.value_at stack depth)) (gathered stack sources)

gathered-given : (stack : List values.Value) (sources : List Source) → gathered stack sources ≡ parts_given stack sources
gathered-given stack [] = refl
gathered-given stack (OneTree role depth ∷ []) = refl
gathered-given stack (AllTrees depth ∷ []) = with_parts-NoParts (parts_of (values.value_at stack depth))
gathered-given stack (OneTree role depth ∷ OneTree other place ∷ sources) =
    ap (before role (values.value_at stack depth)) (gathered-given stack (OneTree other place ∷ sources))
gathered-given stack (OneTree role depth ∷ AllTrees place ∷ sources) =
    ap (before role (values.value_at stack depth)) (gathered-given stack (AllTrees place ∷ sources))
gathered-given stack (AllTrees depth ∷ OneTree other place ∷ sources) =
    ap (with_parts (parts_of (values.value_at stack depth))) (gathered-given stack (OneTree other place ∷ sources))
gathered-given stack (AllTrees depth ∷ AllTrees place ∷ sources) =
    ap (with_parts (parts_of (values.value_at stack depth))) (gathered-given stack (AllTrees place ∷ sources))

role_of-tag : (role : Role) → role_of (role_tag role) ≡ role
role_of-tag Evaluated = refl
role_of-tag Condition = refl
role_of-tag TypePart = refl
role_of-tag Unevaluated = refl

-- the value behind others
value_at-seam : (front : List values.Value) (value : values.Value) (back : List values.Value) (depth : ℕ) → depth ≡ length front
    → values.value_at (front ++ value ∷ back) depth ≡ value
value_at-seam [] value back zero is = refl
value_at-seam [] value back (suc depth) is = absurd (omega (arith, is))
value_at-seam (first ∷ front) value back zero is = absurd (omega (arith, is))
value_at-seam (first ∷ front) value back (suc depth) is = value_at-seam front value back depth (omega (arith, is))

module _ (names : List (List ℕ)) (trees : List SyntaxTree) where
  -- a value below those that are looked at from the deepest on
  deeper : (value : Value) (stack rest : List Value)
      → map (value_of names trees) (reverse (value ∷ stack) ++ rest) ≡ map (value_of names trees) (reverse stack ++ value ∷ rest)
  deeper value stack rest =
      ap (map (value_of names trees)) (ap (λ (front : List Value). front ++ rest) (reverse-cons value stack) ∙ append_assoc (reverse stack) (value ∷ []) rest)

  found : (value : Value) (stack rest : List Value) (depth : ℕ) → depth ≡ length stack
      → values.value_at (map (value_of names trees) (reverse stack ++ value ∷ rest)) depth ≡ value_of names trees value
  found value stack rest depth is =
      ap (λ (all : List values.Value). values.value_at all depth) (map-append (value_of names trees) (reverse stack) (value ∷ rest))
      ∙ value_at-seam (map (value_of names trees) (reverse stack)) (value_of names trees value) (map (value_of names trees) rest) depth
      (is ∙ sym (length-reverse stack) ∙ sym (length-map (reverse stack) (value_of names trees)))

  -- what the values give from the deepest on are the parts that the sources say
  children_gathered : (stack rest : List Value) (sources : List Source) → covers (map (λ (value : Value). sort_of (value_of names trees value)) stack) sources ≡ true
      → parts_at trees (children_in stack sources) ≡ gathered (map (value_of names trees) (reverse stack ++ rest)) sources
  children_gathered [] rest [] covered = refl
  children_gathered [] rest (source ∷ sources) covered = absurd (cc covered)
  children_gathered (Word token name ∷ stack) rest sources covered =
      children_gathered stack (Word token name ∷ rest) sources covered
      ∙ ap (λ (all : List values.Value). gathered all sources) (sym (deeper (Word token name) stack rest))
  children_gathered (Tree handle ∷ stack) rest [] covered = absurd (cc covered)
  children_gathered (Tree handle ∷ stack) rest (AllTrees depth ∷ sources) covered = absurd (cc covered)
  children_gathered (Tree handle ∷ stack) rest (OneTree role depth ∷ sources) covered =
      let sorts : List Sort = map (λ (value : Value). sort_of (value_of names trees value)) stack in
      let halves = and_parts (nat_eq depth (length sorts)) (covers sorts sources) covered in
      let here : depth ≡ length stack = eqb-true depth (length sorts) halves.0 ∙ length-map stack (λ (value : Value). sort_of (value_of names trees value)) in
      let all : List values.Value = map (value_of names trees) (reverse stack ++ Tree handle ∷ rest) in
      ap (λ (kept : Role). Part kept (tree_at trees handle) (parts_at trees (children_in stack sources))) (role_of-tag role)
      ∙ ap (Part role (tree_at trees handle)) (children_gathered stack (Tree handle ∷ rest) sources halves.1)
      ∙ ap (λ (value : values.Value). before role value (gathered all sources)) (sym (found (Tree handle) stack rest depth here))
      ∙ ap (λ (stacked : List values.Value). gathered stacked (OneTree role depth ∷ sources)) (sym (deeper (Tree handle) stack rest))
  children_gathered (kinds.List children ∷ stack) rest [] covered = absurd (cc covered)
  children_gathered (kinds.List children ∷ stack) rest (OneTree role depth ∷ sources) covered = absurd (cc covered)
  children_gathered (kinds.List children ∷ stack) rest (AllTrees depth ∷ sources) covered =
      let sorts : List Sort = map (λ (value : Value). sort_of (value_of names trees value)) stack in
      let halves = and_parts (nat_eq depth (length sorts)) (covers sorts sources) covered in
      let here : depth ≡ length stack = eqb-true depth (length sorts) halves.0 ∙ length-map stack (λ (value : Value). sort_of (value_of names trees value)) in
      let all : List values.Value = map (value_of names trees) (reverse stack ++ kinds.List children ∷ rest) in
      parts_at-append trees children (children_in stack sources)
      ∙ ap (with_parts (parts_at trees children)) (children_gathered stack (kinds.List children ∷ rest) sources halves.1)
      ∙ ap (λ (value : values.Value). with_parts (parts_of value) (gathered all sources)) (sym (found (kinds.List children) stack rest depth here))
      ∙ ap (λ (stacked : List values.Value). gathered stacked (AllTrees depth ∷ sources)) (sym (deeper (kinds.List children) stack rest))

-- the sorts of the last so many, the deepest first
pub last_sorts : (names : List (List ℕ)) (trees : List SyntaxTree) (stack : List Value) (takes : ℕ)
    → reverse (take takes (sorts_of (map (value_of names trees) (reverse stack))))
    ≡ map (λ (value : Value). sort_of (value_of names trees value)) (drop (length stack - takes) stack)
last_sorts names trees stack takes =
    let sort : Value → Sort = λ (value : Value). sort_of (value_of names trees value) in
    ap (λ (sorts : List Sort). reverse (take takes sorts)) (map-map sort_of (value_of names trees) (reverse stack))
    ∙ ap reverse (take-map sort takes (reverse stack))
    ∙ ap (λ (top : List Value). reverse (map sort top)) (last_ones stack takes)
    ∙ ap reverse (map-reverse sort (drop (length stack - takes) stack))
    ∙ reverse-reverse (map sort (drop (length stack - takes) stack))

-- what the last so many values give are the parts that the sources say of the whole stack
pub children-given : (names : List (List ℕ)) (list : NodeList NameId) (stack : List Value) (takes : ℕ) (sources : List Source)
    → IsCovered (values_of names list stack) takes sources
    → parts_at (spelled_trees names list) (children_in (drop (length stack - takes) stack) sources) ≡ parts_given (values_of names list stack) sources
children-given names list stack takes sources covered =
    let trees : List SyntaxTree = spelled_trees names list in
    let top : List Value = drop (length stack - takes) stack in
    let front : List Value = take (length stack - takes) stack in
    children_gathered names trees top (reverse front) sources (sym (ap (λ (sorts : List Sort). covers sorts sources) (last_sorts names trees stack takes)) ∙ covered)
    ∙ ap (λ (all : List Value). gathered (map (value_of names trees) all) sources)
    (sym (reverse-append front top) ∙ ap reverse (take-append-drop (length stack - takes) stack))
    ∙ gathered-given (values_of names list stack) sources

-- values of the sorts that an action takes are covered as those sorts are
pub covered : (values : List values.Value) (takes : ℕ) (sorts : List Sort) (sources : List Source) → take takes (sorts_of values) ≡ sorts
    → covers (reverse sorts) sources ≡ true → IsCovered values takes sources
covered stack takes sorts sources is covers_them = ap (λ (top : List Sort). covers (reverse top) sources) is ∙ covers_them
