-- What holds of operators on numbers that are wrapped.
use Rattle.std.specs.Prelude.{◌≡◌, ◌≢◌, ◌≤◌, true, ℤ, FitsSigned, option_map}
use Rattle.std.specs.Int.{w128}
use Rattle.vocabulary.specs.declared.int_kind.IntKind.{IntKind}
use Rattle.vocabulary.specs.declared.int_kind.IntKind.TheVariants as kinds
use Rattle.vocabulary.specs.declared.operator.Operator.{Operator}
use Rattle.vocabulary.specs.declared.operator.Operator.TheVariants as operators
use Rattle.meaning_types.specs.Ranges.{width}
use Rattle.meaning_types.specs.Conversions.{promoted, usual}
use Rattle.meaning_constants.specs.Numbers.{wrapped, converted}
use Rattle.meaning_constants.specs.Operations.{is_in_width, operated, operated_alone}
use Rattle.meaning_constants.specs.Constants.{numbers_operated}

-- Wrapped before

-- Operands that are wrapped first give what they give themselves (C11 6.2.5 p9 of unsigned kinds, gcc of signed ones).
abbrev pub WrapsOnce : Operator → Type 0
WrapsOnce operator = (kind : IntKind) (left right : ℤ) → operated operator kind (wrapped kind left) (wrapped kind right) ≡ operated operator kind left right

-- so does a shift to the left, whose count is no number of the kind
abbrev pub ShiftWrapsOnce : Operator → Type 0
ShiftWrapsOnce operator = (kind : IntKind) (left count : ℤ) → operated operator kind (wrapped kind left) count ≡ operated operator kind left count

abbrev pub WrapsOnceAlone : Operator → Type 0
WrapsOnceAlone operator = (kind : IntKind) (number : ℤ) → operated_alone operator kind (wrapped kind number) ≡ operated_alone operator kind number

-- a number that 128 bits tell, as they tell each number of a kind
abbrev pub HasBits : ℤ → Type 0
HasBits number = FitsSigned w128 number

-- The bits of wrapped numbers are a number of the kind; those of the numbers themselves become it by wrapping.
abbrev pub BitsWrapOnce : Operator → Type 0
BitsWrapOnce operator =
    (kind : IntKind) (left right : ℤ) → HasBits left → HasBits right
    → operated operator kind (wrapped kind left) (wrapped kind right) ≡ option_map (wrapped kind) (operated operator kind left right)

pub record OperatorsWrapOnce : Type 0 where
  pub sums : WrapsOnce operators.Addition
  pub differences : WrapsOnce operators.Subtraction
  pub products : WrapsOnce operators.Multiplication
  pub shifts : ShiftWrapsOnce operators.LeftShift
  pub negations : WrapsOnceAlone operators.Negation
  pub complements : WrapsOnceAlone operators.Complement
  pub ands : BitsWrapOnce operators.BitwiseAnd
  pub ors : BitsWrapOnce operators.BitwiseOr
  pub exclusive_ors : BitsWrapOnce operators.BitwiseExclusiveOr

-- Wrapped to less

-- A number that is converted, and then to a type that isn't wider, is converted to that at once (6.3.1.3). In _Bool each
-- number but 0 is 1, so there the way counts.
abbrev pub ConversionsCompose : Type 0
ConversionsCompose =
    (narrow wide : IntKind) (number : ℤ) → narrow ≢ kinds.Bool → width narrow ≤ width wide → converted narrow (converted wide number) ≡ converted narrow number

-- What an operator gives in the common kind (6.3.1.8), wrapped to a kind that isn't wider, is what it gives in that one. It holds of
-- the last bit too, to which no conversion to _Bool comes.
abbrev pub NarrowsOnce : Operator → Type 0
NarrowsOnce operator =
    (kind other narrow : IntKind) (left right : ℤ) → width narrow ≤ width (usual kind other)
    → option_map (wrapped narrow) (numbers_operated operator kind other left right) ≡ operated operator narrow (wrapped narrow left) (wrapped narrow right)

-- A shift is one of the promoted left operand (6.5.7 p3); its count has to be in the narrower width.
abbrev pub ShiftNarrowsOnce : Operator → Type 0
ShiftNarrowsOnce operator =
    (kind other narrow : IntKind) (left count : ℤ) → width narrow ≤ width (promoted kind) → is_in_width narrow count ≡ true
    → option_map (wrapped narrow) (numbers_operated operator kind other left count) ≡ operated operator narrow (wrapped narrow left) count

pub record OperatorsNarrowOnce : Type 0 where
  pub sums : NarrowsOnce operators.Addition
  pub differences : NarrowsOnce operators.Subtraction
  pub products : NarrowsOnce operators.Multiplication
  pub shifts : ShiftNarrowsOnce operators.LeftShift
  pub ands : NarrowsOnce operators.BitwiseAnd
  pub ors : NarrowsOnce operators.BitwiseOr
  pub exclusive_ors : NarrowsOnce operators.BitwiseExclusiveOr
