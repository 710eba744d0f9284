-- Worked examples: the names of types in small units, which are drawn as trees, and how names are spelled.
use Rattle.std.specs.Prelude.{◌≡◌, ℕ, true, List, [], ◌∷◌, codes, Some, None}
use Rattle.vocabulary.specs.declared.int_kind.IntKind.TheVariants.{Int}
use Rattle.vocabulary.specs.declared.node_kind.NodeKind.TheVariants as kinds
use Rattle.meaning_types.specs.Types.{Space, NoSpace, NumberedSpace, NamedSpace, TypeTree, Typed, IntegerTree, PointerTree, no_qualifiers, no_flags}
use Rattle.meaning_tree.specs.Trees.{SyntaxTree, Node, NoParts}
use Rattle.meaning_typing.specs.Building.{surroundings_of}
use Rattle.meaning_typing.specs.Units.{UnitNodes}
use Rattle.meaning_typing.specs.examples.Drawn.{declaration, declarator, leaf, nodes_of}
use Rattle.meaning_names.specs.Spelled.{spelled_name, spelled_type}
use Rattle.meaning_names.specs.TypeNames.{identity_of, tag_of}

-- Spellings

abbrev pub spellings : List (List ℕ)
spellings = [] ∷ codes "p" ∷ codes "__user" ∷ []

-- `int * *` with the inner level in this space
abbrev pub pointer_in : Space → TypeTree
pointer_in space =
    Typed (PointerTree (Typed (PointerTree (Typed (IntegerTree Int) no_qualifiers no_flags)) no_qualifiers (record { noderef = true; space = space }))) no_qualifiers no_flags

pub record SpellingExamples : Type 0 where
  pub name : spelled_name spellings (1 ∷ []) ≡ codes "p"
  pub none : spelled_name spellings [] ≡ []
  pub unknown : spelled_name spellings (7 ∷ []) ≡ []
  pub named_space : spelled_type spellings (pointer_in (NamedSpace (2 ∷ []))) ≡ pointer_in (NamedSpace (codes "__user"))
  -- the number of a space is no name
  pub numbered_space : spelled_type spellings (pointer_in (NumberedSpace 2)) ≡ pointer_in (NumberedSpace 2)
  pub no_space : spelled_type spellings (pointer_in NoSpace) ≡ pointer_in NoSpace

-- Names of types

-- `struct` or `union` with a tag at this token, which is its number; a tag without letters is none
abbrev pub tagged : (token : ℕ) → (tag : List ℕ) → SyntaxTree
tagged token tag = Node kinds.StructSpecifier token tag token NoParts

-- `typedef unsigned .. a, b; struct s; struct { .. } x; struct s y; union u;` with the specifiers that restrict left out, where numbers
-- are names
abbrev pub of_types : UnitNodes
of_types =
    nodes_of
    (declaration 0 (leaf kinds.TypedefSpecifier 0 ∷ leaf kinds.UnsignedSpecifier 1 ∷ []) (declarator 2 (1 ∷ []) [] ∷ declarator 4 (2 ∷ []) [] ∷ [])
    ∷ declaration 6 (tagged 6 (3 ∷ []) ∷ []) []
    ∷ declaration 9 (tagged 9 [] ∷ []) (declarator 14 (4 ∷ []) [] ∷ [])
    ∷ declaration 16 (Node kinds.StructSpecifier 16 (3 ∷ []) 6 NoParts ∷ []) (declarator 18 (5 ∷ []) [] ∷ [])
    ∷ declaration 20 (Node kinds.UnionSpecifier 20 (6 ∷ []) 20 NoParts ∷ []) [] ∷ [])

pub record TypeNameExamples : Type 0 where
  -- the first declarator of the declaration
  pub identity : identity_of of_types (surroundings_of of_types) 0 ≡ Some (1 ∷ [])
  -- no declaration begins there, or it declares nothing
  pub no_declaration : identity_of of_types (surroundings_of of_types) 1 ≡ None
  pub declares_nothing : identity_of of_types (surroundings_of of_types) 6 ≡ None
  pub tag : tag_of of_types 6 ≡ Some (3 ∷ [])
  pub union_tag : tag_of of_types 20 ≡ Some (6 ∷ [])
  pub no_tag : tag_of of_types 9 ≡ None
  pub no_structure : tag_of of_types 16 ≡ None
