-- How the values of this crate are seen by the definitions of `meaning_literals`.
use Rattle.std.specs.Prelude.{◌≡◌, ℕ, Option, Some, None, option_map, Result, Ok, Err}
use Rattle.meaning_literals.specs.Numbers as numbers
use Rattle.meaning_literals.specs.Suffixes as suffixes
use Rattle.meaning_literals.specs.Constants.{Constant, Fault, BadDigitFault, BadSuffixFault, TooBigFault, FloatingFault, BadEscapeFault, EmptyFault, WideFault, UniversalFault}
use Rattle.meaning_literals.specs.Elements.{Element, Piece}
use Rattle.meaning_literals.specs.Quoted.{byte_of}
use Rattle.sparse_model.specs.declared.int_const.IntConst.{IntConst}
use Rattle.c_literals.specs.declared.element.Piece as pieces
use Rattle.c_literals.specs.declared.fault.LiteralFault.{LiteralFault}
use Rattle.c_literals.specs.declared.fault.LiteralFault.TheVariants.{BadDigit, BadSuffix, TooBig, Floating, BadEscape, Empty, Wide, Universal, Memory}
use Rattle.c_literals.specs.declared.numbers.Base.{Base}
use Rattle.c_literals.specs.declared.numbers.Base.TheVariants.{Octal, Decimal, Hexadecimal}
use Rattle.c_literals.specs.declared.suffix.Suffix.{Suffix}
use Rattle.c_literals.specs.declared.suffix.Suffix.TheVariants as found

abbrev pub constant_seen : IntConst → Constant
constant_seen constant = record { kind = constant.kind; bits = constant.bits }

abbrev pub base_seen : Base → numbers.Base
base_seen Octal = numbers.Octal
base_seen Decimal = numbers.Decimal
base_seen Hexadecimal = numbers.Hexadecimal

abbrev pub suffix_seen : Suffix → suffixes.Suffix
suffix_seen found.None = suffixes.NoSuffix
suffix_seen found.U = suffixes.U
suffix_seen found.L = suffixes.L
suffix_seen found.UL = suffixes.UL
suffix_seen found.LL = suffixes.LL
suffix_seen found.ULL = suffixes.ULL

-- the reason that a fault tells; want of memory tells none
abbrev pub fault_seen : LiteralFault → Option Fault
fault_seen BadDigit = Some BadDigitFault
fault_seen BadSuffix = Some BadSuffixFault
fault_seen TooBig = Some TooBigFault
fault_seen Floating = Some FloatingFault
fault_seen BadEscape = Some BadEscapeFault
fault_seen Empty = Some EmptyFault
fault_seen Wide = Some WideFault
fault_seen Universal = Some UniversalFault
fault_seen Memory = None

-- an answer, whose value is seen by a function
abbrev pub answer_seen : {A B : Type 0} → (A → B) → Result A LiteralFault → Option (Result B Fault)
answer_seen value_seen (Ok value) = Some (Ok (value_seen value))
answer_seen value_seen (Err fault) = option_map Err (fault_seen fault)

abbrev pub byte_answer : Result ℕ LiteralFault → Option (Result ℕ Fault)
byte_answer answer = answer_seen (λ b. b) answer

abbrev pub constant_answer : Result IntConst LiteralFault → Option (Result Constant Fault)
constant_answer answer = answer_seen constant_seen answer

-- the byte, or its fault, is that of the element
abbrev pub IsByte : Result ℕ LiteralFault → Element → Type 0
IsByte byte element = byte_answer byte ≡ Some (byte_of element)

pub record IsPiece (found : pieces.Piece) (piece : Piece) : Type 0 where
  pub byte : IsByte found.byte piece.element
  pub further : found.further ≡ piece.further

abbrev pub IsReason : {B : Type 0} → Result B Fault → Option Fault → Type 0
IsReason answer None = Unit {0}
IsReason answer (Some reason) = answer ≡ Err reason

-- the fault tells why the answer is one, or want of memory
abbrev pub Tells : {B : Type 0} → Result B Fault → LiteralFault → Type 0
Tells answer fault = IsReason answer (fault_seen fault)

-- a fault that an integer constant may have
abbrev pub IsIntegerFault : LiteralFault → Type 0
IsIntegerFault BadDigit = Unit {0}
IsIntegerFault BadSuffix = Unit {0}
IsIntegerFault TooBig = Unit {0}
IsIntegerFault Floating = Unit {0}
IsIntegerFault BadEscape = ⊥
IsIntegerFault Empty = ⊥
IsIntegerFault Wide = ⊥
IsIntegerFault Universal = ⊥
IsIntegerFault Memory = ⊥

-- a fault that a character constant may have
abbrev pub IsCharacterFault : LiteralFault → Type 0
IsCharacterFault BadDigit = ⊥
IsCharacterFault BadSuffix = ⊥
IsCharacterFault TooBig = ⊥
IsCharacterFault Floating = ⊥
IsCharacterFault BadEscape = Unit {0}
IsCharacterFault Empty = Unit {0}
IsCharacterFault Wide = Unit {0}
IsCharacterFault Universal = Unit {0}
IsCharacterFault Memory = ⊥

-- a fault that a string literal may have
abbrev pub IsStringFault : LiteralFault → Type 0
IsStringFault BadDigit = ⊥
IsStringFault BadSuffix = ⊥
IsStringFault TooBig = ⊥
IsStringFault Floating = ⊥
IsStringFault BadEscape = Unit {0}
IsStringFault Empty = ⊥
IsStringFault Wide = Unit {0}
IsStringFault Universal = Unit {0}
IsStringFault Memory = Unit {0}

-- a fault behind the opening mark of a string literal
abbrev pub IsElementFault : LiteralFault → Type 0
IsElementFault BadDigit = ⊥
IsElementFault BadSuffix = ⊥
IsElementFault TooBig = ⊥
IsElementFault Floating = ⊥
IsElementFault BadEscape = Unit {0}
IsElementFault Empty = ⊥
IsElementFault Wide = ⊥
IsElementFault Universal = Unit {0}
IsElementFault Memory = Unit {0}
