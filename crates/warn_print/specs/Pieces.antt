-- What is still to be written of a type: pieces on a stack, the one that goes next on top.
use Rattle.std.specs.Prelude.{ℕ, ◌+◌, Bool, List, [], ◌∷◌, ◌++◌, codes, Option, Some, None, if◌then◌else◌}
use Rattle.sparse_model.specs.declared.ids.TypeId.{TypeId}
use Rattle.meaning_types.specs.Types.{TypeTree, Typed, BaseTree, VoidTree, IntegerTree, RestrictedTree, PointerTree, ArrayTree, FunctionTree, AggregateTree, TypeTrees, NoTypes, MoreTypes}
use Rattle.meaning_types.specs.Spelling.{marks, space_mark, space_spelling, length_spelling, kind_spelling, identity_spelling, aggregate_word, tag_spelling, spelling_with, parameters_spelling, more_spelling}
use Rattle.c_types.specs.Rows.{is_variadic, parameter_types}
use Rattle.c_types.specs.declared.shapes.OuterBase.{OuterBase}
use Rattle.c_types.specs.declared.shapes.OuterBase.TheVariants as outers
use Rattle.c_types.specs.declared.shapes.OuterShape.{OuterShape}
use Rattle.c_types.specs.Table.{TypeTable, IsTypeId, space_of, type_at}
use Rattle.warn_print.specs.declared.pieces.Piece.{Piece}
use Rattle.warn_print.specs.declared.pieces.Piece.TheVariants as pieces
use Rattle.warn_print.specs.Seen.{named_flags, named_space, named_type, named_types, tag_in, identity_in}

-- a type of a table, with the names of its unit
abbrev pub spelled_in : List (List ℕ) → TypeTable → TypeTree → List ℕ
spelled_in names table type_ = spelling_with (tag_in names table) (identity_in names table) (named_type names type_)

abbrev pub parameters_in : List (List ℕ) → TypeTable → TypeTrees → Bool → List ℕ
parameters_in names table types variadic = parameters_spelling (tag_in names table) (identity_in names table) (named_types names types) variadic

abbrev pub more_in : List (List ℕ) → TypeTable → TypeTrees → Bool → List ℕ
more_in names table types variadic = more_spelling (tag_in names table) (identity_in names table) (named_types names types) variadic

-- the qualifiers and flags of a type
abbrev pub marks_in : List (List ℕ) → TypeTree → List ℕ
marks_in names (Typed base qualifiers flags) = marks qualifiers (named_flags names flags)

-- what derives a type from the one inside it
abbrev pub derivation_in : List (List ℕ) → TypeTable → TypeTree → List ℕ
derivation_in names table (Typed (PointerTree target) qualifiers flags) = codes " *"
derivation_in names table (Typed (ArrayTree element count) qualifiers flags) = codes " [" ++ length_spelling count ++ codes "]"
derivation_in names table (Typed (FunctionTree result parameters variadic) qualifiers flags) =
    codes " (" ++ parameters_in names table parameters variadic ++ codes ")"
derivation_in names table (Typed base qualifiers flags) = []

-- Pieces

abbrev pub piece_spelling : List (List ℕ) → TypeTable → Piece → List ℕ
piece_spelling names table (pieces.Whole id) = spelled_in names table (type_at table id)
piece_spelling names table (pieces.Behind id) = derivation_in names table (type_at table id) ++ marks_in names (type_at table id)
piece_spelling names table (pieces.Parameters id) =
    parameters_in names table (parameter_types (type_at table id)) (is_variadic (type_at table id))
piece_spelling names table (pieces.More id) = more_in names table (parameter_types (type_at table id)) (is_variadic (type_at table id))
piece_spelling names table (pieces.Close id) = codes ")" ++ marks_in names (type_at table id)

-- all pieces of a stack, from the top
abbrev pub stack_text : List (List ℕ) → TypeTable → List Piece → List ℕ
stack_text names table [] = []
stack_text names table (piece ∷ stack) = stack_text names table stack ++ piece_spelling names table piece

-- the id is that of a type of the table
abbrev pub id_of : Piece → TypeId
id_of (pieces.Whole id) = id
id_of (pieces.Behind id) = id
id_of (pieces.Parameters id) = id
id_of (pieces.More id) = id
id_of (pieces.Close id) = id

abbrev pub AreKnownPieces : TypeTable → List Piece → Type 0
AreKnownPieces table [] = Unit {0}
AreKnownPieces table (piece ∷ stack) = IsTypeId table (id_of piece) × AreKnownPieces table stack

-- How much is left: each piece weighs more than those that take its place

abbrev mutual
  pub type_weight : TypeTree → ℕ
  type_weight (Typed base qualifiers flags) = base_weight base

  pub base_weight : BaseTree → ℕ
  base_weight VoidTree = 1
  base_weight (IntegerTree kind) = 1
  base_weight (RestrictedTree kind identity) = 1
  base_weight (PointerTree target) = type_weight target + 2
  base_weight (ArrayTree element count) = type_weight element + 2
  base_weight (FunctionTree result parameters variadic) = type_weight result + types_weight parameters + 4
  base_weight (AggregateTree number is_union) = 1

  pub types_weight : TypeTrees → ℕ
  types_weight NoTypes = 1
  types_weight (MoreTypes type_ types) = type_weight type_ + types_weight types + 1

abbrev pub derivation_weight : TypeTree → ℕ
derivation_weight (Typed (FunctionTree result parameters variadic) qualifiers flags) = types_weight parameters + 3
derivation_weight (Typed base qualifiers flags) = 1

abbrev pub piece_weight : TypeTable → Piece → ℕ
piece_weight table (pieces.Whole id) = type_weight (type_at table id)
piece_weight table (pieces.Behind id) = derivation_weight (type_at table id)
piece_weight table (pieces.Parameters id) = types_weight (parameter_types (type_at table id))
piece_weight table (pieces.More id) = types_weight (parameter_types (type_at table id))
piece_weight table (pieces.Close id) = 1

abbrev pub stack_weight : TypeTable → List Piece → ℕ
stack_weight table [] = 0
stack_weight table (piece ∷ stack) = piece_weight table piece + stack_weight table stack

-- Outermost levels

-- the type from which one is derived
abbrev pub inner_of : OuterBase → Option TypeId
inner_of (outers.Pointer target) = Some target
inner_of (outers.Array element count) = Some element
inner_of (outers.Function result count variadic) = Some result
inner_of base = None

-- the star of a pointer, the brackets of an array
abbrev pub plain_derivation : OuterBase → List ℕ
plain_derivation (outers.Pointer target) = codes " *"
plain_derivation (outers.Array element count) = codes " [" ++ length_spelling count ++ codes "]"
plain_derivation base = []

-- a type that isn't derived from another one
abbrev pub leaf_text : List (List ℕ) → TypeTable → OuterBase → List ℕ
leaf_text names table outers.Void = codes "void"
leaf_text names table (outers.Integer kind None) = kind_spelling kind
leaf_text names table (outers.Integer kind (Some identity)) = codes "restricted " ++ identity_spelling kind (identity_in names table identity.0)
leaf_text names table (outers.Aggregate number is_union) = aggregate_word is_union ++ tag_spelling (tag_in names table number)
leaf_text names table base = []

-- its flags, with volatile before them, and with const before both
abbrev pub shape_flags : List (List ℕ) → OuterShape → List ℕ
shape_flags names shape = (if shape.noderef then codes " noderef" else []) ++ space_mark (named_space names (space_of shape.space))

abbrev pub later_marks : List (List ℕ) → OuterShape → List ℕ
later_marks names shape = (if shape.is_volatile then codes " volatile" else []) ++ shape_flags names shape

abbrev pub shape_marks : List (List ℕ) → OuterShape → List ℕ
shape_marks names shape = (if shape.is_const then codes " const" else []) ++ later_marks names shape

-- what is wrong about a place of this type
abbrev pub flagged_text : List (List ℕ) → OuterShape → List ℕ
flagged_text names shape =
    if shape.noderef then codes "dereference of noderef expression"
    else codes "dereference in address space " ++ space_spelling (named_space names (space_of shape.space))
