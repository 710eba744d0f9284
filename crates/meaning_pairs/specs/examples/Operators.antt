-- Operators over all pairs of some operands: a unary one has its operand on both sides.
use Rattle.std.specs.Prelude.{◌≡◌, ℕ, Bool, true, false, ◌&&◌, ◌||◌, not, nat_eq, List, [], ◌∷◌, map, Option, Some, None, is_some, if◌then◌else◌}
use Rattle.std.specs.List.{flat_map}
use Rattle.vocabulary.specs.declared.int_kind.IntKind.TheVariants.{UChar, Short, UShort, Int, UInt}
use Rattle.vocabulary.specs.declared.rule.RuleCode.{RuleCode}
use Rattle.vocabulary.specs.declared.rule.RuleCode.TheVariants.{B1, B2, B7}
use Rattle.vocabulary.specs.declared.operator.Operator.{Operator}
use Rattle.vocabulary.specs.declared.operator.Operator.TheVariants as operators
use Rattle.meaning_types.specs.Types.{TypeTree, pointer_to}
use Rattle.meaning_types.specs.examples.Types.{plain}
use Rattle.meaning_types.specs.examples.Derived.{restricted_at}
use Rattle.meaning_operands.specs.Operands.{Operand}
use Rattle.meaning_operands.specs.Answers.{OperatorAnswer, operator_answer}
use Rattle.meaning_operands.specs.examples.Operands.{value}

-- An operand, the identity of a restricted one, and what is known of it besides.
pub record Sample : Type 0 where
  pub self : Operand
  pub identity : Option ℕ
  pub is_pointer : Bool
  -- `~` of it has bits above its type
  pub is_narrow : Bool

-- what isn't restricted, and what is: as wide as int or signed, or else narrow
abbrev pub plain_one : Operand → Sample
plain_one operand = record { self = operand; identity = None; is_pointer = false; is_narrow = false }

abbrev pub wide : ℕ → TypeTree → Sample
wide identity type_ = record { self = value type_; identity = Some identity; is_pointer = false; is_narrow = false }

abbrev pub narrow : ℕ → Operand → Sample
narrow identity operand = record { self = operand; identity = Some identity; is_pointer = false; is_narrow = true }

-- int, unsigned char, 0, le32, be32, a signed status, le16, a fouled le16, le8, and `int *`
abbrev pub samples : List Sample
samples =
    plain_one (value (plain Int)) ∷ plain_one (value (plain UChar)) ∷ plain_one (record { of = plain Int; fouled = false; zero = true })
    ∷ wide 1 (restricted_at 1 UInt) ∷ wide 2 (restricted_at 2 UInt) ∷ wide 3 (restricted_at 3 Short)
    ∷ narrow 4 (value (restricted_at 4 UShort)) ∷ narrow 4 (record { of = restricted_at 4 UShort; fouled = true; zero = false })
    ∷ narrow 5 (value (restricted_at 5 UChar))
    ∷ record { self = value (pointer_to (plain Int)); identity = None; is_pointer = true; is_narrow = false } ∷ []

-- What is expected of an operator

abbrev pub unlike_identities : (left right : Sample) → (identity another : Option ℕ) → Bool
unlike_identities left right (Some identity) (Some another) = not (nat_eq identity another)
unlike_identities left right (Some _) None = not right.self.zero && not right.is_pointer
unlike_identities left right None (Some _) = not left.self.zero && not left.is_pointer
unlike_identities left right None None = false

-- two restricted types, or a restricted and a plain operand that isn't the constant 0
abbrev pub are_unlike : Sample → Sample → Bool
are_unlike left right = unlike_identities left right left.identity right.identity

abbrev pub is_restricted : Sample → Bool
is_restricted sample = is_some sample.identity

-- the rule that fails where one of them is restricted, or where they are unlike
abbrev pub where_restricted : RuleCode → Sample → Sample → Option RuleCode
where_restricted rule left right = if is_restricted left || is_restricted right then Some rule else None

abbrev pub where_unlike : Sample → Sample → Option RuleCode
where_unlike left right = if are_unlike left right then Some B2 else None

-- nothing is asked
abbrev pub nothing_fails : Sample → Sample → Option RuleCode
nothing_fails left right = None

abbrev pub either_fouled : Sample → Sample → Bool
either_fouled left right = left.self.fouled || right.self.fouled

abbrev pub never : Sample → Sample → Bool
never left right = false

abbrev pub no_identity : Sample → Sample → Option ℕ
no_identity left right = None

abbrev pub left_identity : Sample → Sample → Option ℕ
left_identity left right = left.identity

-- the left one's, or else the right one's; beside a pointer the left one's
abbrev pub one_identity : Sample → Sample → Option ℕ
one_identity left right = if is_restricted left || left.is_pointer || right.is_pointer then left.identity else right.identity

-- what some operators are expected to say
pub record Expected : Type 0 where
  pub rule : Sample → Sample → Option RuleCode
  pub tested : Sample → Sample → Bool
  pub identity : Sample → Sample → Option ℕ
  pub fouled : Sample → Sample → Bool

-- `[ ]` by its index, unary `+ -`, and `* / % + - << >> < > <= >=`
abbrev pub calculating : Expected
calculating = record { rule = where_restricted B1; tested = never; identity = no_identity; fouled = never }

-- `++ --` and `*= /= %= += -= <<= >>=`
abbrev pub changing : Expected
changing = record { rule = where_restricted B7; tested = never; identity = left_identity; fouled = never }

-- `&`, which clears what one operand hasn't
abbrev pub intersecting : Expected
intersecting = record { rule = where_unlike; tested = never; identity = one_identity; fouled = λ left right. left.self.fouled && right.self.fouled }

-- `^ |`
abbrev pub uniting : Expected
uniting = record { rule = where_unlike; tested = never; identity = one_identity; fouled = either_fouled }

-- the arms of `?:`, which are one type beside a pointer, without a mark
abbrev pub choosing : Expected
choosing =
    record {
      rule = where_unlike;
      tested = never;
      identity = one_identity;
      fouled = λ left right. either_fouled left right && not left.is_pointer && not right.is_pointer;
    }

-- `&= ^= |=`
abbrev pub combining_places : Expected
combining_places = record { rule = where_unlike; tested = never; identity = left_identity; fouled = never }

-- `== !=`
abbrev pub comparing : Expected
comparing = record { rule = where_unlike; tested = either_fouled; identity = no_identity; fouled = never }

-- `! && ||`
abbrev pub testing : Expected
testing = record { rule = nothing_fails; tested = either_fouled; identity = no_identity; fouled = never }

-- `~`
abbrev pub complementing : Expected
complementing = record { rule = nothing_fails; tested = never; identity = left_identity; fouled = λ left right. left.is_narrow || left.self.fouled }

-- `,`
abbrev pub ending : Expected
ending = record { rule = nothing_fails; tested = never; identity = λ left right. right.identity; fouled = λ left right. right.self.fouled }

-- The facts

-- each with itself, or with each
abbrev pub doubles : List (Sample × Sample)
doubles = map (λ sample. (sample, sample)) samples

abbrev pub pairs : List (Sample × Sample)
pairs = flat_map (λ left. map (λ right. (left, right)) samples) samples

-- without pointers, which `& ^ |` don't take
abbrev pub integers : List Sample → List Sample
integers [] = []
integers (sample ∷ others) = if sample.is_pointer then integers others else sample ∷ integers others

abbrev pub integer_pairs : List (Sample × Sample)
integer_pairs = flat_map (λ left. map (λ right. (left, right)) (integers samples)) (integers samples)

-- what each of the operators says of each pair
abbrev pub found : List Operator → List (Sample × Sample) → List (List OperatorAnswer)
found all over = map (λ operator. map (λ pair. operator_answer operator pair.0.self pair.1.self) over) all

abbrev pub answer : Expected → Sample → Sample → OperatorAnswer
answer expected left right =
    record { rule = expected.rule left right; tested = expected.tested left right; identity = expected.identity left right; fouled = expected.fouled left right }

-- the same as is expected
abbrev pub wanted : Expected → List Operator → List (Sample × Sample) → List (List OperatorAnswer)
wanted expected all over = map (λ operator. map (λ pair. answer expected pair.0 pair.1) over) all

-- these operators say of these pairs what is expected
abbrev pub Say : List Operator → Expected → List (Sample × Sample) → Type 0
Say all expected over = found all over ≡ wanted expected all over

-- the rule that fails, and whether a fouled value is tested
abbrev pub faults : List (List OperatorAnswer) → List (List (Option RuleCode × Bool))
faults answers = map (λ row. map (λ one. (one.rule, one.tested)) row) answers

-- the same, but for what they give
abbrev pub Refuse : List Operator → Expected → List (Sample × Sample) → Type 0
Refuse all expected over = faults (found all over) ≡ faults (wanted expected all over)

pub record PairsMeet : Type 0 where
  pub signs : Say (operators.UnaryPlus ∷ operators.Negation ∷ []) calculating doubles
  pub calculated :
      Say
      (operators.Subscript ∷ operators.Multiplication ∷ operators.Division ∷ operators.Remainder ∷ operators.Addition ∷ operators.Subtraction
      ∷ operators.LeftShift ∷ operators.RightShift ∷ operators.Less ∷ operators.Greater ∷ operators.LessOrEqual ∷ operators.GreaterOrEqual ∷ [])
      calculating
      pairs
  pub steps : Say (operators.PostIncrement ∷ operators.PostDecrement ∷ operators.PreIncrement ∷ operators.PreDecrement ∷ []) changing doubles
  pub changed :
      Say
      (operators.MultiplicationAssignment ∷ operators.DivisionAssignment ∷ operators.RemainderAssignment ∷ operators.AdditionAssignment
      ∷ operators.SubtractionAssignment ∷ operators.LeftShiftAssignment ∷ operators.RightShiftAssignment ∷ [])
      changing
      pairs
  pub intersections : Say (operators.BitwiseAnd ∷ []) intersecting integer_pairs
  pub unions : Say (operators.BitwiseExclusiveOr ∷ operators.BitwiseOr ∷ []) uniting integer_pairs
  pub beside_pointers : Refuse (operators.BitwiseAnd ∷ operators.BitwiseExclusiveOr ∷ operators.BitwiseOr ∷ []) uniting pairs
  pub arms : Say (operators.Conditional ∷ []) choosing pairs
  pub combined : Say (operators.BitwiseAndAssignment ∷ operators.BitwiseExclusiveOrAssignment ∷ operators.BitwiseOrAssignment ∷ []) combining_places pairs
  pub compared : Say (operators.Equal ∷ operators.NotEqual ∷ []) comparing pairs
  pub negated : Say (operators.LogicalNot ∷ []) testing doubles
  pub tested : Say (operators.LogicalAnd ∷ operators.LogicalOr ∷ []) testing pairs
  pub complements : Say (operators.Complement ∷ []) complementing doubles
  pub last : Say (operators.Comma ∷ []) ending pairs
