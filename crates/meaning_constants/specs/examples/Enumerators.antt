-- Worked examples: enumerators, and the types of enumerations.
use Rattle.std.specs.Prelude.{◌≡◌, ℤ, pos, negsuc, List, [], ◌∷◌, map, Option, Some, None}
use Rattle.vocabulary.specs.declared.int_kind.IntKind.{IntKind}
use Rattle.vocabulary.specs.declared.int_kind.IntKind.TheVariants as kinds
use Rattle.meaning_constants.specs.Constants.{Constant}
use Rattle.meaning_constants.specs.Enumerators.{enumeration_kind, enumerator_of, restricted_enumerator_of, first_enumerator, next_enumerator}
use Rattle.meaning_constants.specs.examples.Constants.{is}

abbrev pub constant : IntKind → ℤ → Constant
constant kind number = record { kind = kind; number = number }

-- behind a constant of its smallest kind
abbrev pub behind : List Constant → List (Option Constant)
behind constants = map next_enumerator constants

pub record EnumeratorExamples : Type 0 where
  pub first : first_enumerator ≡ is kinds.Int (pos 0)
  pub counted :
      behind
      (constant kinds.Int (pos 5) ∷ constant kinds.Int (pos 2147483647) ∷ constant kinds.UInt (pos 4294967295) ∷ constant kinds.Long (pos 9223372036854775807) ∷ [])
      ≡ is kinds.Int (pos 6) ∷ is kinds.UInt (pos 2147483648) ∷ is kinds.Long (pos 4294967296) ∷ is kinds.ULong (pos 9223372036854775808) ∷ []
  -- no type holds the next one
  pub last : behind (constant kinds.ULong (pos 18446744073709551615) ∷ []) ≡ None ∷ []
  pub written :
      map enumerator_of (constant kinds.ULong (pos 3) ∷ constant kinds.Long (negsuc 299) ∷ constant kinds.Long (pos 3000000000) ∷ [])
      ≡ constant kinds.Int (pos 3) ∷ constant kinds.Int (negsuc 299) ∷ constant kinds.Long (pos 3000000000) ∷ []
  pub restricted : restricted_enumerator_of (constant kinds.UInt (pos 2)) ≡ constant kinds.UInt (pos 2)
  -- `~` of a restricted unsigned short is fouled, and an enumerator isn't
  pub fouled : restricted_enumerator_of (constant kinds.UShort (negsuc 1)) ≡ constant kinds.UShort (pos 65534)
  pub enumerations :
      map enumeration_kind
      ((pos 4294967296 ∷ []) ∷ (negsuc 0 ∷ pos 4294967295 ∷ []) ∷ (pos 3000000000 ∷ []) ∷ (pos 0 ∷ pos 1 ∷ []) ∷ (negsuc 0 ∷ pos 9223372036854775808 ∷ []) ∷ [])
      ≡ Some kinds.Long ∷ Some kinds.Long ∷ Some kinds.UInt ∷ Some kinds.Int ∷ None ∷ []
