-- Worked examples: what expressions come to.
use Rattle.std.specs.Prelude.{◌≡◌, ℕ, ℤ, pos, negsuc, List, [], ◌∷◌, map, replicate, Option, Some, None}
use Rattle.vocabulary.specs.declared.int_kind.IntKind.{IntKind}
use Rattle.vocabulary.specs.declared.int_kind.IntKind.TheVariants as kinds
use Rattle.vocabulary.specs.declared.operator.Operator.TheVariants as operators
use Rattle.meaning_types.specs.Types.{TypeTree, pointer_to}
use Rattle.meaning_types.specs.examples.Types.{plain}
use Rattle.meaning_types.specs.examples.Derived.{void, restricted_at}
use Rattle.meaning_constants.specs.Constants.{Constant}
use Rattle.meaning_constants.specs.examples.Expressions.{Expression, Literal, Other, Sized, Alone, Between, And, Or, Choice, ChoiceOr, Cast, constant_of}

-- Expressions

abbrev pub int : ℕ → Expression
int number = Literal kinds.Int number

abbrev pub unsigned : ℕ → Expression
unsigned number = Literal kinds.UInt number

abbrev pub long : ℕ → Expression
long number = Literal kinds.Long number

abbrev pub negative : Expression → Expression
negative operand = Alone operators.Negation operand

-- an int that is an object
abbrev pub i : Expression
i = Other (plain kinds.Int)

abbrev pub pointer : Expression
pointer = Other (pointer_to (plain kinds.Int))

abbrev pub one_by_zero : Expression
one_by_zero = Between operators.Division (int 1) (int 0)

abbrev pub cast_to : IntKind → Expression → Expression
cast_to kind operand = Cast (plain kind) operand

abbrev pub le16 : TypeTree
le16 = restricted_at 1 kinds.UShort

abbrev pub le32 : TypeTree
le32 = restricted_at 2 kinds.UInt

-- `~` of a restricted one
abbrev pub complement_of_one : TypeTree → Expression
complement_of_one of = Alone operators.Complement (Cast of (int 1))

-- What they come to

abbrev pub is : IntKind → ℤ → Option Constant
is kind number = Some (record { kind = kind; number = number })

abbrev pub constants : List Expression → List (Option Constant)
constants expressions = map constant_of expressions

-- these have none
abbrev pub AreNone : List Expression → Type 0
AreNone expressions = constants expressions ≡ map (λ expression. None) expressions

pub record OperatorExamples : Type 0 where
  pub compared : constants (Between operators.Greater (negative (int 1)) (unsigned 0) ∷ []) ≡ is kinds.Int (pos 1) ∷ []
  pub divided_by_zero : AreNone (one_by_zero ∷ Between operators.Remainder (int 1) (int 0) ∷ [])
  pub counts :
      AreNone
      (Between operators.LeftShift (int 1) (int 32) ∷ Between operators.LeftShift (int 1) (negative (int 1))
      ∷ Between operators.RightShift (negative (int 1)) (int 32) ∷ [])
  pub long_shift : constants (Between operators.LeftShift (long 1) (int 32) ∷ []) ≡ is kinds.Long (pos 4294967296) ∷ []
  pub wraps :
      constants (Between operators.LeftShift (int 1) (int 31) ∷ Between operators.Addition (int 2147483647) (int 1) ∷ [])
      ≡ replicate 2 (is kinds.Int (negsuc 2147483647))
  pub sign_copied :
      constants (Between operators.RightShift (negative (int 1)) (int 1) ∷ Between operators.RightShift (negative (long 5)) (int 1) ∷ [])
      ≡ is kinds.Int (negsuc 0) ∷ is kinds.Long (negsuc 2) ∷ []
  pub least_int :
      map (λ operator. constant_of (Between operator (Between operators.Subtraction (negative (int 2147483647)) (int 1)) (negative (int 1))))
      (operators.Division ∷ operators.Remainder ∷ [])
      ≡ is kinds.Int (negsuc 2147483647) ∷ is kinds.Int (pos 0) ∷ []
  pub cut_to_zero :
      constants
      (Between operators.Division (negative (int 7)) (int 2) ∷ Between operators.Remainder (negative (int 7)) (int 2)
      ∷ Between operators.Remainder (int 7) (negative (int 2)) ∷ [])
      ≡ is kinds.Int (negsuc 2) ∷ is kinds.Int (negsuc 0) ∷ is kinds.Int (pos 1) ∷ []
  pub unsigned_wraps :
      constants (Between operators.Addition (unsigned 4294967295) (int 1) ∷ Between operators.Subtraction (unsigned 0) (int 1) ∷ [])
      ≡ is kinds.UInt (pos 0) ∷ is kinds.UInt (pos 4294967295) ∷ []
  pub complements :
      constants (Alone operators.LogicalNot (int 5) ∷ Alone operators.LogicalNot (Alone operators.LogicalNot (unsigned 5)) ∷ Alone operators.Complement (unsigned 0) ∷ [])
      ≡ is kinds.Int (pos 0) ∷ is kinds.Int (pos 1) ∷ is kinds.UInt (pos 4294967295) ∷ []
  pub negated :
      constants (negative (negative (cast_to kinds.Char (negative (int 128)))) ∷ negative (unsigned 2147483648) ∷ [])
      ≡ is kinds.Int (negsuc 127) ∷ is kinds.UInt (pos 2147483648) ∷ []
  pub wide :
      constants
      (Between operators.Division (Literal kinds.ULong 18446744073709551615) (int 2)
      ∷ Between operators.Addition (long 9223372036854775807) (int 1) ∷ [])
      ≡ is kinds.ULong (pos 9223372036854775807) ∷ is kinds.Long (negsuc 9223372036854775807) ∷ []
  pub bits : constants (Between operators.BitwiseOr (Between operators.BitwiseAnd (int 5) (int 3)) (Between operators.BitwiseExclusiveOr (int 8) (int 1)) ∷ []) ≡ is kinds.Int (pos 9) ∷ []

pub record EvaluationExamples : Type 0 where
  pub chosen : constants (Choice (int 1) (int 2) one_by_zero ∷ Choice (int 1) (int 2) i ∷ []) ≡ replicate 2 (is kinds.Int (pos 2))
  pub common_kind :
      constants (Choice (int 1) (negative (int 1)) (unsigned 0) ∷ Choice (int 0) (negative (int 1)) (long 1) ∷ [])
      ≡ is kinds.UInt (pos 4294967295) ∷ is kinds.Long (pos 1) ∷ []
  pub without_middle : constants (ChoiceOr (int 1) one_by_zero ∷ ChoiceOr (int 0) (int 5) ∷ []) ≡ is kinds.Int (pos 1) ∷ is kinds.Int (pos 5) ∷ []
  pub decided : constants (And (int 0) i ∷ Or (int 1) i ∷ []) ≡ is kinds.Int (pos 0) ∷ is kinds.Int (pos 1) ∷ []
  pub both : constants (And (int 2) (int 3) ∷ Or (int 0) (int 0) ∷ []) ≡ is kinds.Int (pos 1) ∷ is kinds.Int (pos 0) ∷ []
  pub not_decided : AreNone (And (int 1) i ∷ And i (int 0) ∷ Or i (int 1) ∷ Choice i (int 1) (int 1) ∷ i ∷ [])
  pub pointers :
      AreNone
      (cast_to kinds.Int (Cast (pointer_to void) (int 0)) ∷ Alone operators.LogicalNot pointer ∷ Between operators.Equal pointer (int 0)
      ∷ Choice (int 1) pointer (int 0) ∷ And pointer (int 0) ∷ [])

pub record CastExamples : Type 0 where
  pub narrow :
      constants
      (cast_to kinds.Char (int 300) ∷ cast_to kinds.Bool (int 2) ∷ cast_to kinds.UChar (negative (int 1))
      ∷ cast_to kinds.Short (negative (int 32769)) ∷ [])
      ≡ is kinds.Char (pos 44) ∷ is kinds.Bool (pos 1) ∷ is kinds.UChar (pos 255) ∷ is kinds.Short (pos 32767) ∷ []
  pub characters : constants (int 97 ∷ int 4294967295 ∷ []) ≡ is kinds.Int (pos 97) ∷ is kinds.Int (negsuc 0) ∷ []
  pub sizes : constants (Sized (Some 4) ∷ Sized (Some 1099511627776) ∷ []) ≡ is kinds.ULong (pos 4) ∷ is kinds.ULong (pos 1099511627776) ∷ []
  pub no_sizes : AreNone (Sized None ∷ Sized (Some 1099511627777) ∷ [])

pub record FoulExamples : Type 0 where
  pub complement : constants (complement_of_one le16 ∷ complement_of_one le32 ∷ []) ≡ is kinds.UShort (negsuc 1) ∷ is kinds.UInt (pos 4294967294) ∷ []
  pub cleared :
      constants (Between operators.BitwiseAnd (complement_of_one le16) (Cast le16 (int 255)) ∷ Cast le16 (complement_of_one le16) ∷ [])
      ≡ is kinds.UShort (pos 254) ∷ is kinds.UShort (pos 65534) ∷ []
  -- the bits that the type hasn't are compared too
  pub compared :
      constants (Between operators.Equal (Cast le16 (int 1)) (Alone operators.Complement (Cast le16 (negative (int 2)))) ∷ [])
      ≡ is kinds.Int (pos 0) ∷ []
  pub again : constants (Alone operators.Complement (complement_of_one le16) ∷ []) ≡ is kinds.UShort (pos 1) ∷ []
  pub chosen : constants (Choice (int 1) (complement_of_one le16) (Cast le16 (int 1)) ∷ []) ≡ is kinds.UShort (negsuc 1) ∷ []
