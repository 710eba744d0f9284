-- What is told of literals without a value.
use Rattle.std.specs.Prelude.{◌≡◌, ℕ, Option, Some, None}
use Rattle.meaning_literals.specs.Constants.{Fault}
use Rattle.meaning_derivation.specs.Literals.{BadLiteral, error_of}
use Rattle.parse_state.specs.declared.fault.ActionFault.{ActionFault}
use Rattle.parse_state.specs.declared.fault.ActionFault.TheVariants.{Refused, Limit, Memory}

-- what is told at this token of a literal that has no value for this reason; without a reason memory ran out
abbrev pub literal_told : Option Fault → (token : ℕ) → ActionFault
literal_told None token = Memory
literal_told (Some fault) token = Refused (error_of fault) token

-- the fault tells of this literal; of want of memory nothing is said
abbrev pub IsOfBad : Option BadLiteral → ActionFault → Type 0
IsOfBad bad (Refused kind token) = bad ≡ Some (record { kind = kind; token = token })
IsOfBad bad (Limit limit token) = ⊥
IsOfBad bad Memory = Unit {0}
