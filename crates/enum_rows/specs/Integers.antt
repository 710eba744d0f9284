-- Integer types without qualifiers and flags, and which kinds have all numbers of a span.
use Rattle.std.specs.Prelude.{ℕ, ℤ, int_le, Bool, ◌&&◌, List, [], ◌∷◌, Option, Some, None, if◌then◌else◌}
use Rattle.vocabulary.specs.declared.int_kind.IntKind.{IntKind}
use Rattle.meaning_types.specs.Types.{TypeTree, Typed, IntegerTree, RestrictedTree}
use Rattle.meaning_types.specs.Ranges.{least, greatest}
use Rattle.meaning_constants.specs.Enumerators.{enumeration_kinds}
use Rattle.meaning_typing.specs.Enumerations.{integer_base}
use Rattle.meaning_typing.specs.Specifiers.{plain_type}
use Rattle.c_types.specs.declared.outline.Outline.{Outline}
use Rattle.c_types.specs.declared.outline.Outline.TheVariants as outlines
use Rattle.c_types.specs.Operands.{identity_seen}
use Rattle.node_facts.specs.Outlined.{loaded_kind_if}
use Rattle.enum_rows.specs.declared.integers.IntegerType.{IntegerType}
use Rattle.enum_rows.specs.declared.integers.RestrictedType.{RestrictedType}
use Rattle.enum_rows.specs.declared.integers.Span.{Span}

-- Types

abbrev pub type_of_integer : IntegerType → TypeTree
type_of_integer of = plain_type (integer_base of.kind (identity_seen of.identity))

abbrev pub plain_integer : IntKind → IntegerType
plain_integer kind = record { kind = kind; identity = None }

-- as a restricted one is told among enumerators: by its kind and its identity
abbrev pub restricted_seen : RestrictedType → IntKind × ℕ
restricted_seen restricted = (restricted.kind, restricted.identity.0)

abbrev pub integer_of_restricted : RestrictedType → IntegerType
integer_of_restricted restricted = record { kind = restricted.kind; identity = Some restricted.identity }

-- a type that is one of integers
abbrev pub integer_in : TypeTree → Option IntegerType
integer_in (Typed (IntegerTree kind) _ _) = Some (plain_integer kind)
integer_in (Typed (RestrictedTree kind identity) _ _) = Some (record { kind = kind; identity = Some (record { 0 = identity }) })
integer_in (Typed base _ _) = None

-- what is loaded of a place of a type that is so
abbrev pub integer_with : (width : Option ℕ) → Outline → Option IntegerType
integer_with width (outlines.Integer kind) = Some (plain_integer (loaded_kind_if width kind))
integer_with width (outlines.Restricted kind restrict) = Some (record { kind = kind; identity = Some restrict })
integer_with width outline = None

-- Spans

-- the kind has all numbers of the span
abbrev pub has_span : IntKind → Span → Bool
has_span kind span = int_le (least kind) span.least && int_le span.greatest (greatest kind)

abbrev pub first_with_span : List IntKind → Span → Option IntKind
first_with_span [] span = None
first_with_span (kind ∷ others) span = if has_span kind span then Some kind else first_with_span others span

-- the first kind of an enumeration that has them
abbrev pub kind_of_span : Span → Option IntKind
kind_of_span span = first_with_span enumeration_kinds span

abbrev pub only_number : ℤ → Span
only_number number = record { least = number; greatest = number }
