-- Worked examples: contexts, and functions that don't return. Units are drawn as trees; their nodes are counted from 0, each behind its parts.
use Rattle.std.specs.Prelude.{◌≡◌, ℕ, Bool, true, false, [], ◌∷◌, map, Option, Some, None}
use Rattle.vocabulary.specs.declared.node_kind.NodeKind.TheVariants as kinds
use Rattle.meaning_typing.specs.Units.{UnitNodes}
use Rattle.meaning_typing.specs.Building.{surroundings_of}
use Rattle.meaning_typing.specs.ContextSums.{ContextSums}
use Rattle.meaning_typing.specs.examples.Drawn.{declaration, declarator, leaf, nodes_of, type_over}
use Rattle.meaning_typing.specs.examples.Declared.{word}
use Rattle.meaning_typing.specs.examples.DeclarationRows.{context, k, void_at, void_function, void_list}
use Rattle.meaning_objects.specs.Carried.{contexts_of_object, is_noreturn}
use Rattle.meaning_objects.specs.examples.Objects.{facts_in}

abbrev pub contexts_in : UnitNodes → (object : ℕ) → Option ContextSums
contexts_in nodes object = contexts_of_object nodes (surroundings_of nodes) (facts_in nodes) object

abbrev pub noreturn_in : UnitNodes → (object : ℕ) → Bool
noreturn_in nodes object = is_noreturn nodes (surroundings_of nodes) (facts_in nodes) object

abbrev pub sums : (enters leaves : ℕ) → Option ContextSums
sums enters leaves = Some (record { enters = enters; leaves = leaves })

-- `void k(void); void k(void) CONTEXT(2, 3); void k(void) CONTEXT(1, 1);`: the declarators are nodes 6, 14 and 26
abbrev pub thrice : UnitNodes
thrice =
    nodes_of
    (void_function 0 (void_at 0) [] ∷ void_function 10 (void_at 10) (context 16 2 3 ∷ []) ∷ void_function 30 (void_at 30) (context 36 1 1 ∷ []) ∷ [])

pub record ContextExamples : Type 0 where
  -- of the first declaration that carries some
  pub first : map (contexts_in thrice) (6 ∷ 14 ∷ 26 ∷ []) ≡ sums 2 3 ∷ sums 2 3 ∷ sums 2 3 ∷ []
  -- `void k(void);`, and `void k(void) CONTEXT(0, 1) CONTEXT(1, 0);`
  pub none : contexts_in (nodes_of (void_function 0 (void_at 0) [] ∷ [])) 6 ≡ None
  pub added : contexts_in (nodes_of (void_function 0 (void_at 0) (context 6 0 1 ∷ context 16 1 0 ∷ []) ∷ [])) 6 ≡ sums 1 1
  -- `void k(void) CONTEXT(0, 0);`, which carries one
  pub of_zeros : contexts_in (nodes_of (void_function 0 (void_at 0) (context 6 0 0 ∷ []) ∷ [])) 6 ≡ sums 0 0
  -- `typedef void k(void) CONTEXT(0, 1);`
  pub of_typedef :
      contexts_in (nodes_of (declaration 0 (leaf kinds.TypedefSpecifier 0 ∷ void_at 1) (declarator 2 k (void_list 3 ∷ []) ∷ context 7 0 1 ∷ []) ∷ [])) 7 ≡ None

-- `_Noreturn void k(void); void k(void);`: the declarators are nodes 7 and 15
abbrev pub specified_noreturn : UnitNodes
specified_noreturn = nodes_of (void_function 0 (leaf kinds.NoreturnSpecifier 0 ∷ void_at 1) [] ∷ void_function 10 (void_at 10) [] ∷ [])

-- `void k(void); void k(void) __attribute__((noreturn));`: the declarators are nodes 6 and 14
abbrev pub attributed_noreturn : UnitNodes
attributed_noreturn = nodes_of (void_function 0 (void_at 0) [] ∷ void_function 10 (void_at 10) (word kinds.NoreturnAttribute 16 0 ∷ []) ∷ [])

pub record NoreturnExamples : Type 0 where
  pub by_specifier : map (noreturn_in specified_noreturn) (7 ∷ 15 ∷ []) ≡ true ∷ true ∷ []
  pub by_attribute : map (noreturn_in attributed_noreturn) (6 ∷ 14 ∷ []) ≡ true ∷ true ∷ []
  pub without : noreturn_in thrice 6 ≡ false
  -- `__attribute__((noreturn)) void *k(void);`, and `void *__attribute__((noreturn)) k(void);`
  pub among_specifiers :
      noreturn_in
      (nodes_of (declaration 0 (word kinds.NoreturnAttribute 0 0 ∷ void_at 6) (declarator 8 k (leaf kinds.PointerDeclarator 7 ∷ void_list 9 ∷ []) ∷ []) ∷ [])) 9
      ≡ true
  pub behind_star :
      noreturn_in
      (nodes_of
      (declaration 0 (void_at 0) (declarator 8 k (type_over kinds.PointerDeclarator 1 (word kinds.NoreturnAttribute 2 0 ∷ []) ∷ void_list 9 ∷ []) ∷ []) ∷ [])) 9
      ≡ false
  -- `typedef void k(void) __attribute__((noreturn));`
  pub of_typedef :
      noreturn_in
      (nodes_of (declaration 0 (leaf kinds.TypedefSpecifier 0 ∷ void_at 1) (declarator 2 k (void_list 3 ∷ []) ∷ word kinds.NoreturnAttribute 7 0 ∷ []) ∷ [])) 7
      ≡ false
