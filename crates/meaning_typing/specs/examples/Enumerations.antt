-- Worked examples: enumerations that share a restricted type, and those that don't.
use Rattle.std.specs.Prelude.{◌≡◌, ℕ, pos, [], ◌∷◌, Option, Some, None}
use Rattle.vocabulary.specs.declared.int_kind.IntKind.{IntKind}
use Rattle.vocabulary.specs.declared.int_kind.IntKind.TheVariants as kinds
use Rattle.meaning_types.specs.Types.{TypeTree, RestrictedTree, IntegerTree}
use Rattle.meaning_typing.specs.Specifiers.{plain_type}
use Rattle.meaning_typing.specs.Enumerations.{EnumeratorValue, typed_enumerators}

-- a number of this kind, plain or with this identity
abbrev pub enumerator : IntKind → (identity : Option ℕ) → ℕ → EnumeratorValue
enumerator kind identity number = record { constant = record { kind = kind; number = pos number }; identity = identity }

-- le32 was made by token 7, be32 by token 9
abbrev pub le32 : TypeTree
le32 = plain_type (RestrictedTree kinds.UInt 7)

abbrev pub be32 : TypeTree
be32 = plain_type (RestrictedTree kinds.UInt 9)

abbrev pub int : TypeTree
int = plain_type (IntegerTree kinds.Int)

pub record EnumerationExamples : Type 0 where
  -- `enum { K0 = 0, K1 = (FORCE le32)2 }`: both are le32
  pub shared :
      typed_enumerators (enumerator kinds.Int None 0 ∷ enumerator kinds.UInt (Some 7) 2 ∷ []) ≡ (le32, pos 0) ∷ (le32, pos 2) ∷ []
  -- `enum { K0 = 3, K1 = (FORCE le32)2 }`: each has its own type
  pub mixed :
      typed_enumerators (enumerator kinds.Int None 3 ∷ enumerator kinds.UInt (Some 7) 2 ∷ []) ≡ (int, pos 3) ∷ (le32, pos 2) ∷ []
  pub different :
      typed_enumerators (enumerator kinds.UInt (Some 7) 1 ∷ enumerator kinds.UInt (Some 9) 2 ∷ []) ≡ (le32, pos 1) ∷ (be32, pos 2) ∷ []
  pub plain : typed_enumerators (enumerator kinds.Int None 0 ∷ enumerator kinds.Int None 1 ∷ []) ≡ (int, pos 0) ∷ (int, pos 1) ∷ []
