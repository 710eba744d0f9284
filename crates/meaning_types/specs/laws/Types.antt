-- What holds of types and of the tests of them.
use Rattle.std.specs.Prelude.{◌≡◌, ◌↔◌, ◌≤◌, true, false}
use Rattle.vocabulary.specs.declared.int_kind.IntKind.{IntKind}
use Rattle.vocabulary.specs.declared.int_kind.IntKind.TheVariants.{Int}
use Rattle.meaning_types.specs.Types.{Qualifiers, Flags, TypeTree, bare, without_flags}
use Rattle.meaning_types.specs.Marks.{IsNormal, marked, member_type}
use Rattle.meaning_types.specs.Ranges.{width}
use Rattle.meaning_types.specs.Conversions.{conversion_rank, is_signed, usual}
use Rattle.meaning_types.specs.Spaces.{MixSpaces, mix_spaces, have_other_targets}
use Rattle.meaning_types.specs.Equality.{are_equal_kinds, are_equal_flags, are_same}

-- kinds pass where they are equal, and nowhere else
abbrev pub EqualKindsPass : Type 0
EqualKindsPass = (kind other : IntKind) → (are_equal_kinds kind other ≡ true) ↔ (kind ≡ other)

-- so do flags
abbrev pub EqualFlagsPass : Type 0
EqualFlagsPass = (flags others : Flags) → (are_equal_flags flags others ≡ true) ↔ (flags ≡ others)

-- and types that are equal but for const and volatile
abbrev pub SameTypesPass : Type 0
SameTypesPass = (type_ other : TypeTree) → (are_same type_ other ≡ true) ↔ (bare type_ ≡ bare other)

-- Normal types

-- of a normal type each of these is normal
pub record NormalTypesStay : Type 0 where
  pub without_qualifiers : (type_ : TypeTree) → IsNormal type_ → IsNormal (bare type_)
  pub unflagged : (type_ : TypeTree) → IsNormal type_ → IsNormal (without_flags type_)
  pub with_marks : (qualifiers : Qualifiers) (flags : Flags) (type_ : TypeTree) → IsNormal type_ → IsNormal (marked qualifiers flags type_)
  pub of_members : (qualifiers : Qualifiers) (flags : Flags) (type_ : TypeTree) → IsNormal type_ → IsNormal (member_type qualifiers flags type_)

-- qualifiers and flags are taken away in either order
abbrev pub LevelsCommute : Type 0
LevelsCommute = (type_ : TypeTree) → bare (without_flags type_) ≡ without_flags (bare type_)

-- Pointers

-- the test passes where two types mix spaces, and nowhere else
abbrev pub MixedSpacesPass : Type 0
MixedSpacesPass = (type_ other : TypeTree) → (mix_spaces type_ other ≡ true) ↔ MixSpaces type_ other

-- two types that mix spaces have no other targets
abbrev pub AtMostOneHolds : Type 0
AtMostOneHolds = (type_ other : TypeTree) → mix_spaces type_ other ≡ true → have_other_targets type_ other ≡ false

-- The usual arithmetic conversions

abbrev pub UsualCommutes : Type 0
UsualCommutes = (kind other : IntKind) → usual kind other ≡ usual other kind

-- no operand stays narrower than an int
abbrev pub UsualIsAtLeastInt : Type 0
UsualIsAtLeastInt = (kind other : IntKind) → conversion_rank Int ≤ conversion_rank (usual kind other)

-- an unsigned operand that is as wide as the result makes it unsigned
abbrev pub UsualIsUnsigned : Type 0
UsualIsUnsigned =
    (kind other : IntKind) → is_signed kind ≡ false → width kind ≡ width (usual kind other) → is_signed (usual kind other) ≡ false
