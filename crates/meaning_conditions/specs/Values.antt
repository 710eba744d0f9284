-- The values of expressions behind `#if`: 64 bits, signed or unsigned (C11 6.10.1 p4).
use Rattle.std.specs.Prelude.{ℕ, ◌+◌, ◌-◌, ◌*◌, ◌/◌, ◌%◌, ◌^◌, ◌==◌, Bool, true, false, not, ◌&&◌, ◌||◌, nat_le, nat_lt, bit_and, bit_or, bit_xor, if◌then◌else◌}
use Rattle.meaning_conditions.specs.Operators.{Unary, Plus, Negative, Complement, Not, Binary, Multiply, Divide, Remainder, Add, Subtract, LeftShift, RightShift, Less, Greater, LessEqual, GreaterEqual, Equal, NotEqual, BitAnd, BitXor, BitOr, And, Or}
use Rattle.meaning_conditions.specs.Signs.{Number, greatest_signed}
use Rattle.meaning_conditions.specs.Expressions.{Tree, Leaf, One, Two, Choice}

-- What the evaluation of an expression comes to.
pub data Outcome : Type 0 where
  -- these bits
  Is : ℕ → Outcome
  -- the divisor behind the token with this index is 0
  ZeroAt : ℕ → Outcome

-- What an operator knows of an operand: what it comes to, and whether it is unsigned. Its type is told by the expression
-- alone, evaluated or not.
pub record Operand : Type 0 where
  pub outcome : Outcome
  pub unsigned : Bool

-- goes on with the bits, if there are any
abbrev pub with_bits : Outcome → (ℕ → Outcome) → Outcome
with_bits (Is bits) next = next bits
with_bits (ZeroAt index) next = ZeroAt index

-- Signed numbers are seen by their bits, those below 0 as 2^64 more (6.2.6.2 p2).

abbrev pub is_negative : ℕ → Bool
is_negative n = nat_le (greatest_signed + 1) n

-- the other sign; the least number stands for itself, as all signed numbers wrap
abbrev pub negative : ℕ → ℕ
negative n = (2 ^ 64 - n) % 2 ^ 64

-- how far a signed number is from 0
abbrev pub size : ℕ → ℕ
size n = if is_negative n then negative n else n

abbrev pub complement : ℕ → ℕ
complement n = 2 ^ 64 - 1 - n

-- with a sign or without it
abbrev pub signed_as : Bool → ℕ → ℕ
signed_as true n = negative n
signed_as false n = n

abbrev pub differ : Bool → Bool → Bool
differ true b = not b
differ false b = b

-- towards zero (6.5.5 p6)
abbrev pub quotient : (unsigned : Bool) → ℕ → ℕ → ℕ
quotient true a b = a / b
quotient false a b = signed_as (differ (is_negative a) (is_negative b)) (size a / size b)

-- with the sign of the dividend
abbrev pub remainder : (unsigned : Bool) → ℕ → ℕ → ℕ
remainder true a b = a % b
remainder false a b = signed_as (is_negative a) (size a % size b)

-- a count is taken modulo the width
abbrev pub shift_count : ℕ → ℕ
shift_count n = n % 64

abbrev pub shifted_left : ℕ → ℕ → ℕ
shifted_left n count = (n * 2 ^ shift_count count) % 2 ^ 64

-- copies of the sign come in, so a number below 0 is shifted as its complement
abbrev pub shifted_right : (unsigned : Bool) → ℕ → ℕ → ℕ
shifted_right true n count = n / 2 ^ shift_count count
shifted_right false n count =
    if is_negative n then complement (complement n / 2 ^ shift_count count) else n / 2 ^ shift_count count

-- numbers below 0 come first
abbrev pub in_order : ℕ → ℕ
in_order n = (n + 2 ^ 63) % 2 ^ 64

abbrev pub is_less : (unsigned : Bool) → ℕ → ℕ → Bool
is_less true a b = nat_lt a b
is_less false a b = nat_lt (in_order a) (in_order b)

-- 1 or 0
abbrev pub truth : Bool → ℕ
truth true = 1
truth false = 0

abbrev pub is_true : ℕ → Bool
is_true n = not (n == 0)

-- what an operator before its operand makes (6.5.3.3)
abbrev pub bits_of_one : Unary → ℕ → ℕ
bits_of_one Plus n = n
bits_of_one Negative n = negative n
bits_of_one Complement n = complement n
bits_of_one Not n = truth (not (is_true n))

-- `!` is signed
abbrev pub is_unsigned_one : Unary → Bool → Bool
is_unsigned_one Not unsigned = false
is_unsigned_one operator unsigned = unsigned

abbrev pub one : Unary → Operand → Operand
one operator a =
    record {
      outcome = with_bits a.outcome (λ n. Is (bits_of_one operator n));
      unsigned = is_unsigned_one operator a.unsigned;
    }

-- what is divided by 0 has no value (6.5.5 p5)
abbrev pub divided : (index divisor quotient : ℕ) → Outcome
divided index divisor quotient = if divisor == 0 then ZeroAt index else Is quotient

-- what an operator between two numbers makes, which are both unsigned or both signed (6.5.5 to 6.5.14)
abbrev pub outcome_of_two : (index : ℕ) → Binary → (unsigned : Bool) → ℕ → ℕ → Outcome
outcome_of_two index Multiply unsigned a b = Is ((a * b) % 2 ^ 64)
outcome_of_two index Divide unsigned a b = divided index b (quotient unsigned a b)
outcome_of_two index Remainder unsigned a b = divided index b (remainder unsigned a b)
outcome_of_two index Add unsigned a b = Is ((a + b) % 2 ^ 64)
outcome_of_two index Subtract unsigned a b = Is ((a + (2 ^ 64 - b)) % 2 ^ 64)
outcome_of_two index LeftShift unsigned a b = Is (shifted_left a b)
outcome_of_two index RightShift unsigned a b = Is (shifted_right unsigned a b)
outcome_of_two index Less unsigned a b = Is (truth (is_less unsigned a b))
outcome_of_two index Greater unsigned a b = Is (truth (is_less unsigned b a))
outcome_of_two index LessEqual unsigned a b = Is (truth (not (is_less unsigned b a)))
outcome_of_two index GreaterEqual unsigned a b = Is (truth (not (is_less unsigned a b)))
outcome_of_two index Equal unsigned a b = Is (truth (a == b))
outcome_of_two index NotEqual unsigned a b = Is (truth (not (a == b)))
outcome_of_two index BitAnd unsigned a b = Is (bit_and a b)
outcome_of_two index BitXor unsigned a b = Is (bit_xor a b)
outcome_of_two index BitOr unsigned a b = Is (bit_or a b)
outcome_of_two index And unsigned a b = Is (truth (is_true a && is_true b))
outcome_of_two index Or unsigned a b = Is (truth (is_true a || is_true b))

-- The right operand isn't evaluated where the left one decides: `0 && b` and `1 || b` (6.5.13 p4, 6.5.14 p4).
abbrev pub is_decided : Binary → ℕ → Bool
is_decided And a = not (is_true a)
is_decided Or a = is_true a
is_decided operator a = false

-- what is decided so is the truth of the left operand
abbrev pub evaluated : (index : ℕ) → Binary → (unsigned : Bool) → Outcome → Outcome → Outcome
evaluated index operator unsigned left right =
    with_bits left (λ a.
    if is_decided operator a then Is (truth (is_true a))
    else with_bits right (λ b. outcome_of_two index operator unsigned a b))

-- Both operands are taken as unsigned where one of them is (6.3.1.8); of a shift the left one counts (6.5.7 p3).
abbrev pub is_taken_unsigned : Binary → (left right : Bool) → Bool
is_taken_unsigned LeftShift left right = left
is_taken_unsigned RightShift left right = left
is_taken_unsigned operator left right = left || right

-- comparisons, `&&` and `||` give 1 or 0, which is signed (6.5.8 p6, 6.5.9 p3, 6.5.13 p3, 6.5.14 p3)
abbrev pub gives_truth : Binary → Bool
gives_truth Less = true
gives_truth Greater = true
gives_truth LessEqual = true
gives_truth GreaterEqual = true
gives_truth Equal = true
gives_truth NotEqual = true
gives_truth And = true
gives_truth Or = true
gives_truth operator = false

abbrev pub two : (index : ℕ) → Binary → Operand → Operand → Operand
two index operator a b =
    record {
      outcome = evaluated index operator (is_taken_unsigned operator a.unsigned b.unsigned) a.outcome b.outcome;
      unsigned = not (gives_truth operator) && is_taken_unsigned operator a.unsigned b.unsigned;
    }

-- one arm alone is evaluated (6.5.15 p4)
abbrev pub chosen : (condition middle other : Outcome) → Outcome
chosen condition middle other = with_bits condition (λ n. if is_true n then middle else other)

-- both arms tell the type (6.5.15 p5)
abbrev pub choice : (condition middle other : Operand) → Operand
choice a b c =
    record {
      outcome = chosen a.outcome b.outcome c.outcome;
      unsigned = b.unsigned || c.unsigned;
    }

-- what an operand without operators is
abbrev pub operand_of : Number → Operand
operand_of number = record { outcome = Is number.bits; unsigned = number.unsigned }

-- the value and the type of an expression, by cases on its outermost operator
abbrev pub valued : Tree → Operand
valued (Leaf number) = operand_of number
valued (One operator a) = one operator (valued a)
valued (Two index operator a b) = two index operator (valued a) (valued b)
valued (Choice a b c) = choice (valued a) (valued b) (valued c)
