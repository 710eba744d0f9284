-- Worked examples: operators to which wrapped operands aren't the same (C11 6.5.5, 6.5.7 to 6.5.9), and conversions whose way counts.
use Rattle.std.specs.Prelude.{◌≡◌, ◌^◌, ℤ, pos, negsuc, List, [], ◌∷◌, Option, Some, None, option_map}
use Rattle.vocabulary.specs.declared.int_kind.IntKind.TheVariants as kinds
use Rattle.vocabulary.specs.declared.operator.Operator.{Operator}
use Rattle.vocabulary.specs.declared.operator.Operator.TheVariants as operators
use Rattle.meaning_constants.specs.Numbers.{wrapped, converted}
use Rattle.meaning_constants.specs.Operations.{operated, operated_alone}
use Rattle.meaning_constants.specs.Constants.{numbers_operated}

-- a number as an unsigned int
abbrev pub unsigned : ℤ → ℤ
unsigned number = wrapped kinds.UInt number

-- what an operator gives of two numbers, wrapped behind it, and what it gives of the two wrapped first
abbrev pub both_ways : Operator → (left right : ℤ) → List (Option ℤ)
both_ways operator left right = option_map unsigned (operated operator kinds.UInt left right) ∷ operated operator kinds.UInt (unsigned left) (unsigned right) ∷ []

-- a number that is converted at once, and by way of unsigned char
abbrev pub by_char : (ℤ → ℤ) → ℤ → List ℤ
by_char convert number = convert number ∷ convert (converted kinds.UChar number) ∷ []

pub record WaysThatCount : Type 0 where
  -- -1 becomes 4294967295
  pub quotients : both_ways operators.Division (negsuc 0) (pos 2) ≡ Some (pos 0) ∷ Some (pos 2147483647) ∷ []
  pub remainders : both_ways operators.Remainder (negsuc 0) (pos 2) ≡ Some (pos 4294967295) ∷ Some (pos 1) ∷ []
  pub right_shifts : both_ways operators.RightShift (negsuc 0) (pos 1) ≡ Some (pos 4294967295) ∷ Some (pos 2147483647) ∷ []
  pub less : both_ways operators.Less (negsuc 0) (pos 0) ≡ Some (pos 1) ∷ Some (pos 0) ∷ []
  pub greater : both_ways operators.Greater (negsuc 0) (pos 0) ≡ Some (pos 0) ∷ Some (pos 1) ∷ []
  pub less_or_equal : both_ways operators.LessOrEqual (negsuc 0) (pos 0) ≡ Some (pos 1) ∷ Some (pos 0) ∷ []
  pub greater_or_equal : both_ways operators.GreaterOrEqual (negsuc 0) (pos 0) ≡ Some (pos 0) ∷ Some (pos 1) ∷ []
  pub equal : both_ways operators.Equal (negsuc 0) (pos 4294967295) ≡ Some (pos 0) ∷ Some (pos 1) ∷ []
  pub not_equal : both_ways operators.NotEqual (negsuc 0) (pos 4294967295) ≡ Some (pos 1) ∷ Some (pos 0) ∷ []
  -- 2^32 becomes 0, so `!` is of 0, a divisor is none, and a count is in the width
  pub logical_not :
      operated_alone operators.LogicalNot kinds.UInt (pos (2 ^ 32)) ∷ operated_alone operators.LogicalNot kinds.UInt (unsigned (pos (2 ^ 32))) ∷ []
      ≡ Some (pos 0) ∷ Some (pos 1) ∷ []
  pub divisors : both_ways operators.Division (pos 1) (pos (2 ^ 32)) ≡ Some (pos 0) ∷ None ∷ []
  pub counts : both_ways operators.LeftShift (pos 1) (pos (2 ^ 32)) ≡ None ∷ Some (pos 1) ∷ []
  -- 256 is true, and 0 as an unsigned char; an int is wider than that
  pub to_bool : by_char (converted kinds.Bool) (pos 256) ≡ pos 1 ∷ pos 0 ∷ []
  pub to_int : by_char (converted kinds.Int) (negsuc 0) ≡ negsuc 0 ∷ pos 255 ∷ []
  -- the sum of two ints wraps before it becomes a long
  pub to_long :
      option_map (wrapped kinds.Long) (numbers_operated operators.Addition kinds.Int kinds.Int (pos 2147483647) (pos 1))
      ∷ operated operators.Addition kinds.Long (pos 2147483647) (pos 1) ∷ []
      ≡ Some (negsuc 2147483647) ∷ Some (pos 2147483648) ∷ []
