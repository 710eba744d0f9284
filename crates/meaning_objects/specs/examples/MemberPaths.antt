-- Worked examples: paths to the members of `struct m { .. };`, which is aggregate 0.
use Rattle.std.specs.Prelude.{◌≡◌, ℕ, List, [], ◌∷◌, length, codes, Option, Some, None}
use Rattle.vocabulary.specs.declared.node_kind.NodeKind.TheVariants as kinds
use Rattle.meaning_typing.specs.Units.{UnitNodes}
use Rattle.meaning_typing.specs.Aggregates.{Bodies}
use Rattle.meaning_typing.specs.Building.{surroundings_of}
use Rattle.meaning_typing.specs.MemberDeclarations.{bodies_before}
use Rattle.meaning_typing.specs.WholeTyping.{whole_facts_of}
use Rattle.meaning_typing.specs.examples.Declared.{aggregate, bits, called, ints, members, structure_of, within}
use Rattle.meaning_objects.specs.MemberPaths.{member_path}

abbrev pub bodies_told : UnitNodes → Bodies
bodies_told nodes = bodies_before nodes (surroundings_of nodes) (whole_facts_of nodes (surroundings_of nodes)) (length nodes)

abbrev pub path_in : UnitNodes → (name : List ℕ) → Option (List ℕ)
path_in nodes name = member_path (bodies_told nodes) 0 name

-- `{ int a; struct { int b; union { int d; int e; }; }; int k; }`
abbrev pub nested : UnitNodes
nested =
    structure_of
    (ints 3 (called 4 (codes "a") ∷ [])
    ∷ members 6
    (aggregate kinds.StructSpecifier 6 [] 6 7
    (ints 8 (called 9 (codes "b") ∷ [])
    ∷ members 11 (aggregate kinds.UnionSpecifier 11 [] 11 12 (ints 13 (called 14 (codes "d") ∷ []) ∷ ints 16 (called 17 (codes "e") ∷ []) ∷ []) ∷ []) [] ∷ []) ∷ []) []
    ∷ ints 21 (called 22 (codes "k") ∷ []) ∷ [])

-- `{ int a : 3, : 5, b : 2; struct { int d; }; }`
abbrev pub with_fields : UnitNodes
with_fields =
    structure_of
    (ints 3 (called 4 (codes "a") ∷ bits 5 3 ∷ called 8 [] ∷ bits 8 5 ∷ called 11 (codes "b") ∷ bits 12 2 ∷ []) ∷ within 15 (codes "d") [] ∷ [])

pub record PathExamples : Type 0 where
  pub own : path_in nested (codes "a") ≡ Some (0 ∷ [])
  pub through_one : path_in nested (codes "b") ≡ Some (1 ∷ 0 ∷ [])
  pub through_two : path_in nested (codes "e") ≡ Some (1 ∷ 1 ∷ 1 ∷ [])
  pub behind : path_in nested (codes "k") ≡ Some (2 ∷ [])
  pub missing : path_in nested (codes "n") ≡ None
  -- a bit-field without a name isn't counted
  pub field : path_in with_fields (codes "a") ≡ Some (0 ∷ [])
  pub behind_unnamed : path_in with_fields (codes "b") ≡ Some (1 ∷ [])
  pub through_behind : path_in with_fields (codes "d") ≡ Some (2 ∷ 0 ∷ [])
