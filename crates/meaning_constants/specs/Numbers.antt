-- What becomes of a number in an integer type (C11 6.3.1.2, 6.3.1.3).
use Rattle.std.specs.Prelude.{ℤ, pos, ◌+ℤ◌, ◌-ℤ◌, ◌≤ℤ◌, if◌then◌else◌}
use Rattle.std.specs.Int.{int_rem_euclid}
use Rattle.std.specs.Ordering.{int_eq}
use Rattle.vocabulary.specs.declared.int_kind.IntKind.{IntKind}
use Rattle.vocabulary.specs.declared.int_kind.IntKind.TheVariants as kinds
use Rattle.meaning_types.specs.Conversions.{promoted}
use Rattle.meaning_types.specs.Ranges.{least, greatest}

-- the kind has the number
abbrev pub IsInRange : IntKind → ℤ → Type 0
IsInRange kind number = (least kind ≤ℤ number) × (number ≤ℤ greatest kind)

-- how many numbers a kind has
abbrev pub number_count : IntKind → ℤ
number_count kind = (greatest kind -ℤ least kind) +ℤ pos 1

-- The one number of the kind that differs from this one by a multiple of how many it has. A number that the kind
-- has stays as it is (6.3.1.3 p1); of unsigned kinds the standard wants it (p2), of signed ones gcc says it (p3).
abbrev pub wrapped : IntKind → ℤ → ℤ
wrapped kind number = least kind +ℤ int_rem_euclid (number -ℤ least kind) (number_count kind)

-- each number but 0 is true (6.3.1.2)
abbrev pub truth_of : ℤ → ℤ
truth_of number = if int_eq number (pos 0) then pos 0 else pos 1

-- the number that a number becomes in a kind
abbrev pub converted : IntKind → ℤ → ℤ
converted kinds.Bool number = truth_of number
converted kind number = wrapped kind number

-- the number that a label has under a switch value whose base has this kind (6.8.4.2 p5)
abbrev pub label_number : IntKind → ℤ → ℤ
label_number kind number = converted (promoted kind) number
