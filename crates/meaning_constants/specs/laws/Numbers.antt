-- What holds of converted numbers.
use Rattle.std.specs.Prelude.{◌≡◌, ◌≢◌, ℤ, ◌+ℤ◌, ◌*ℤ◌}
use Rattle.vocabulary.specs.declared.int_kind.IntKind.{IntKind}
use Rattle.vocabulary.specs.declared.int_kind.IntKind.TheVariants as kinds
use Rattle.meaning_constants.specs.Numbers.{IsInRange, number_count, converted}

-- what a number becomes is a number of the kind
abbrev pub ConversionsAreInRange : Type 0
ConversionsAreInRange = (kind : IntKind) (number : ℤ) → IsInRange kind (converted kind number)

-- a number of the kind stays as it is (C11 6.3.1.3 p1)
abbrev pub ConversionsKeepNumbers : Type 0
ConversionsKeepNumbers = (kind : IntKind) (number : ℤ) → IsInRange kind number → converted kind number ≡ number

-- the numbers differ, but in _Bool, by a multiple of how many numbers the kind has (6.3.1.3 p2, p3)
abbrev pub ConversionsWrap : Type 0
ConversionsWrap =
    (kind : IntKind) (number : ℤ) → kind ≢ kinds.Bool → (times : ℤ) × (number ≡ converted kind number +ℤ times *ℤ number_count kind)
