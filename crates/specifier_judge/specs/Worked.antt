-- Worked examples: specifiers and enumerators as they are read, with what is known of the expressions among them. A node stands
-- behind its parts, and the number of a specifier is the token of the keyword that names its tag first.
use Rattle.std.specs.Prelude.{◌≡◌, ℕ, pos, negsuc, true, List, [], ◌∷◌, map, Some, None}
use Rattle.vocabulary.specs.declared.error_kind.ErrorKind.TheVariants.{EnumeratorIsNotConstant, EnumeratorOutOfRange, TagRedeclared}
use Rattle.vocabulary.specs.declared.node_kind.NodeKind.{NodeKind}
use Rattle.vocabulary.specs.declared.node_kind.NodeKind.TheVariants as kinds
use Rattle.vocabulary.specs.declared.rule.RuleCode.TheVariants.{B2}
use Rattle.meaning_tree.specs.Nodes.{TreeNode}
use Rattle.meaning_typing.specs.EnumRows.{constant_value}
use Rattle.meaning_typing.specs.Facts.{Fact, Unknown, Expression, NamedType}
use Rattle.meaning_typing.specs.Rows.{Row, breaks, breaks_at, breaks_named, fails_with, known}
use Rattle.meaning_typing.specs.Surroundings.{Surrounding, ForNothing}
use Rattle.meaning_typing.specs.Units.{UnitNodes}
use Rattle.meaning_typing.specs.WholeTyping.{whole_row_at}
use Rattle.meaning_typing.specs.examples.Drawn.{int}
use Rattle.meaning_typing.specs.examples.Values.{i, le32, unsigned_long}

abbrev pub node : NodeKind → (token : ℕ) → (name : List ℕ) → (number : ℕ) → (children : List ℕ) → TreeNode (List ℕ)
node kind token name number children = record { kind = kind; token = token; name = name; number = number; children = map (λ child. (child, 0)) children }

-- a part of this node, at this place
abbrev pub part_of : (parent place : ℕ) → Surrounding
part_of parent place = record { parent = parent; place = place; want = ForNothing; is_evaluated = true; around = record { function = None; scope = parent } }

-- an enumerator at this token, and the expression of one
abbrev pub enumerator : (token : ℕ) → (children : List ℕ) → TreeNode (List ℕ)
enumerator token children = node kinds.Enumerator token (token ∷ []) 0 children

abbrev pub expression : TreeNode (List ℕ)
expression = node kinds.Cast 9 [] 0 []

-- `enum e { E0, E1 = .., E2 = .. }`: the row of each enumerator and of the enumeration, where this is known of the expressions
abbrev pub three : UnitNodes
three =
    enumerator 3 [] ∷ expression ∷ enumerator 5 (1 ∷ []) ∷ expression ∷ enumerator 7 (3 ∷ []) ∷ node kinds.EnumSpecifier 0 (8 ∷ []) 0 (0 ∷ 2 ∷ 4 ∷ []) ∷ []

abbrev pub standing : List Surrounding
standing = part_of 5 0 ∷ part_of 2 0 ∷ part_of 5 1 ∷ part_of 4 0 ∷ part_of 5 2 ∷ part_of 5 0 ∷ []

abbrev pub row_in : UnitNodes → List Fact → (handle : ℕ) → Row
row_in nodes facts handle = whole_row_at nodes standing facts handle

-- `enum { E = .. , G = .. }`
abbrev pub two : UnitNodes
two = expression ∷ enumerator 3 (0 ∷ []) ∷ expression ∷ enumerator 5 (2 ∷ []) ∷ node kinds.EnumSpecifier 0 [] 0 (1 ∷ 3 ∷ []) ∷ []

-- `struct pair { .. };` and `union pair *k`, whose number is that of the structure
abbrev pub tags : UnitNodes
tags =
    node kinds.MemberList 2 [] 0 [] ∷ node kinds.StructSpecifier 0 (8 ∷ []) 0 (0 ∷ []) ∷ node kinds.UnionSpecifier 5 (8 ∷ []) 0 []
    ∷ node kinds.StructSpecifier 10 (8 ∷ []) 0 [] ∷ []

-- `enum e { E }` and `enum e` behind it, and another one that has no body
abbrev pub named : UnitNodes
named =
    enumerator 3 [] ∷ node kinds.EnumSpecifier 0 (8 ∷ []) 0 (0 ∷ []) ∷ node kinds.EnumSpecifier 10 (8 ∷ []) 0 []
    ∷ node kinds.EnumSpecifier 20 (9 ∷ []) 20 [] ∷ []

pub record WorkedRows : Type 0 where
  -- `enum e { E0, E1 = (FORCE le32)1, E2 = (FORCE le32)2 }` is le32, and so are the two; E0 is an int in it
  pub first : row_in three [] 0 ≡ known (constant_value int (pos 0))
  pub second : row_in three (constant_value int (pos 0) ∷ constant_value le32 (pos 1) ∷ []) 2 ≡ known (constant_value le32 (pos 1))
  pub restricted :
      row_in three (constant_value int (pos 0) ∷ constant_value le32 (pos 1) ∷ constant_value le32 (pos 1) ∷ constant_value le32 (pos 2) ∷ constant_value le32 (pos 2) ∷ []) 5
      ≡ known (NamedType le32)
  -- `enum e { E0, E1 = (FORCE le32)1, E2 = 2 }`: restricted and other ones side by side
  pub mixed :
      row_in three (constant_value int (pos 0) ∷ constant_value le32 (pos 1) ∷ constant_value le32 (pos 1) ∷ constant_value int (pos 2) ∷ constant_value int (pos 2) ∷ []) 5
      ≡ record (known (NamedType int)) { failures = fails_with B2 0 0 (Some le32) (Some int) [] ∷ [] }
  -- `enum { E = -1, G = 18446744073709551615u }`: no type has both
  pub out_of_range :
      row_in two
      (constant_value int (negsuc 0) ∷ constant_value int (negsuc 0) ∷ constant_value unsigned_long (pos 18446744073709551615)
      ∷ constant_value unsigned_long (pos 18446744073709551615) ∷ []) 4
      ≡ breaks (breaks_at EnumeratorOutOfRange 0)
  -- `enum { E = i }`: no constant
  pub not_constant : row_in two (Expression i ∷ []) 1 ≡ breaks (breaks_at EnumeratorIsNotConstant 3)
  -- `union pair *k` behind `struct pair { .. };`, at the tag, and `struct pair`
  pub other_kind : map (λ handle. (row_in tags (Unknown ∷ []) handle).broken) (2 ∷ 3 ∷ []) ≡ breaks_named TagRedeclared 6 (8 ∷ []) ∷ [] ∷ []
  -- an enumeration that is named has the type of its body, or else it is an int
  pub named_again :
      map (λ handle. (row_in named (constant_value int (pos 0) ∷ NamedType unsigned_long ∷ []) handle).fact) (2 ∷ 3 ∷ [])
      ≡ NamedType unsigned_long ∷ NamedType int ∷ []
