-- What operators give of numbers (C11 6.5.3.3, 6.5.5 to 6.5.12).
use Rattle.std.specs.Prelude.{◌^◌, ℤ, pos, negsuc, ◌+ℤ◌, ◌-ℤ◌, ◌*ℤ◌, neg_ℤ, unsigned_abs, int_div, int_rem, int_lt, int_le, Bool, not, ◌&&◌, Option, Some, None, if◌then◌else◌}
use Rattle.std.specs.Int.{w128, int_bit_and, int_bit_or, int_bit_xor, int_shr, is_negative}
use Rattle.std.specs.Ordering.{int_eq}
use Rattle.vocabulary.specs.declared.int_kind.IntKind.{IntKind}
use Rattle.vocabulary.specs.declared.operator.Operator.{Operator}
use Rattle.vocabulary.specs.declared.operator.Operator.TheVariants as operators
use Rattle.meaning_types.specs.Ranges.{width}
use Rattle.meaning_constants.specs.Numbers.{wrapped}

-- 1 or 0
abbrev pub truth : Bool → ℤ
truth holds = if holds then pos 1 else pos 0

-- nothing is divided by 0 (6.5.5 p5)
abbrev pub unless_zero : (divisor result : ℤ) → Option ℤ
unless_zero divisor result = if int_eq divisor (pos 0) then None else Some result

-- a count is neither below 0 nor as great as the width of what is shifted (6.5.7 p3)
abbrev pub is_in_width : IntKind → ℤ → Bool
is_in_width kind count = not (is_negative count) && int_lt count (pos (width kind))

abbrev pub if_in_width : IntKind → (count result : ℤ) → Option ℤ
if_in_width kind count result = if is_in_width kind count then Some result else None

-- so many times two
abbrev pub times_power_of_two : ℤ → (count : ℤ) → ℤ
times_power_of_two number count = number *ℤ pos (2 ^ unsigned_abs count)

-- What a binary operator gives of two numbers that are converted to this kind; of a shift the left one is, the right one
-- is a count. A result that the kind hasn't wraps, a signed one too. A quotient is cut toward 0, and a remainder has the
-- sign of the dividend (6.5.5 p6); a right shift copies the sign, and bits are those of two's complement.
abbrev pub operated : Operator → IntKind → ℤ → ℤ → Option ℤ
operated operators.Multiplication kind left right = Some (wrapped kind (left *ℤ right))
operated operators.Division kind left right = unless_zero right (wrapped kind (int_div left right))
operated operators.Remainder kind left right = unless_zero right (int_rem left right)
operated operators.Addition kind left right = Some (wrapped kind (left +ℤ right))
operated operators.Subtraction kind left right = Some (wrapped kind (left -ℤ right))
operated operators.LeftShift kind left count = if_in_width kind count (wrapped kind (times_power_of_two left count))
operated operators.RightShift kind left count = if_in_width kind count (int_shr left (unsigned_abs count))
operated operators.Less kind left right = Some (truth (int_lt left right))
operated operators.Greater kind left right = Some (truth (int_lt right left))
operated operators.LessOrEqual kind left right = Some (truth (int_le left right))
operated operators.GreaterOrEqual kind left right = Some (truth (int_le right left))
operated operators.Equal kind left right = Some (truth (int_eq left right))
operated operators.NotEqual kind left right = Some (truth (not (int_eq left right)))
operated operators.BitwiseAnd kind left right = Some (int_bit_and w128 left right)
operated operators.BitwiseExclusiveOr kind left right = Some (int_bit_xor w128 left right)
operated operators.BitwiseOr kind left right = Some (int_bit_or w128 left right)
operated operator kind left right = None

-- What a unary operator gives of a number that is promoted to this kind (6.5.3.3).
abbrev pub operated_alone : Operator → IntKind → ℤ → Option ℤ
operated_alone operators.UnaryPlus kind number = Some number
operated_alone operators.Negation kind number = Some (wrapped kind (neg_ℤ number))
operated_alone operators.Complement kind number = Some (wrapped kind (negsuc 0 -ℤ number))
operated_alone operators.LogicalNot kind number = Some (truth (int_eq number (pos 0)))
operated_alone operator kind number = None
