-- Casts: the type that is named, as a fact, and what is asked of it by its outermost level.
use Rattle.std.specs.Prelude.{Bool, true, false, Option, Some, None}
use Rattle.vocabulary.specs.declared.int_kind.IntKind.{IntKind}
use Rattle.vocabulary.specs.declared.int_kind.IntKind.TheVariants as integers
use Rattle.sparse_model.specs.declared.ids.TypeId.{TypeId}
use Rattle.meaning_types.specs.Types as types
use Rattle.meaning_types.specs.Types.{TypeTree, Typed, flags_of}
use Rattle.meaning_typing.specs.Casts.{is_unqualified}
use Rattle.meaning_typing.specs.Facts.{Fact, Unknown, Expression, NamedType, place, type_of_value}
use Rattle.meaning_typing.specs.Rows.{Row}
use Rattle.c_types.specs.declared.outline.Outline.{Outline}
use Rattle.c_types.specs.declared.outline.Outline.TheVariants as outlines
use Rattle.c_types.specs.Table.{TypeTable, type_at}

-- of the type that a type name gives, where that is known
abbrev pub named_part : TypeTable → Option TypeId → Fact
named_part table None = Unknown
named_part table (Some to) = NamedType (type_at table to)

-- A row that gives the type of what is loaded from a place of this type: where such a place isn't an array or a function, that is
-- the type without its qualifiers and flags.
abbrev pub of_type : TypeTree → Fact → Fact
of_type type_ (Expression expression) = Expression (record expression { type_ = type_ })
of_type type_ fact = fact

abbrev pub as_loaded : TypeTree → Row → Row
as_loaded to row = record row { fact = of_type (type_of_value (place to)) row.fact }

-- What is asked of a type

abbrev pub is_bare_level : TypeTree → Bool
is_bare_level (Typed base qualifiers flags) = is_unqualified qualifiers

abbrev pub is_unsigned_long : IntKind → Bool
is_unsigned_long integers.ULong = true
is_unsigned_long kind = false

abbrev pub is_unsigned_long_outline : Outline → Bool
is_unsigned_long_outline (outlines.Integer kind) = is_unsigned_long kind
is_unsigned_long_outline outline = false

-- the space of a target, if there is one
abbrev pub space_in : Option TypeTree → Option types.Space
space_in None = None
space_in (Some target) = Some (flags_of target).space
