-- Worked examples: enumerators at token 2 and their enumerations, whose `enum` stands at token 1.
use Rattle.std.specs.Prelude.{◌≡◌, ℤ, pos, negsuc, true, false, List, [], ◌∷◌, map, Some, None}
use Rattle.vocabulary.specs.declared.error_kind.ErrorKind.TheVariants.{EnumeratorIsNotConstant, EnumeratorOutOfRange}
use Rattle.vocabulary.specs.declared.rule.RuleCode.TheVariants.{B2}
use Rattle.meaning_types.specs.Types.{TypeTree}
use Rattle.meaning_typing.specs.Facts.{Fact, Unknown, Expression, NamedType, value}
use Rattle.meaning_typing.specs.Rows.{breaks_at, fails_with}
use Rattle.meaning_typing.specs.EnumRows.{SeenEnumerator, constant_value, counted_enumerator_row, enumeration_row, enumerator_named, valued_enumerator_row}
use Rattle.meaning_typing.specs.examples.Drawn.{int}
use Rattle.meaning_typing.specs.examples.Values.{be32, char, i, le32, long, unsigned_int, unsigned_long}

-- an expression with this constant
abbrev pub constant_of : TypeTree → ℤ → Fact
constant_of type_ number = Expression (record (value type_) { constant = Some number })

abbrev pub valued : TypeTree → ℤ → Fact
valued type_ number = (valued_enumerator_row 2 (constant_of type_ number)).fact

abbrev pub counted : (before : Fact) → Fact
counted before = (counted_enumerator_row (Some before)).fact

-- 2^64 - 1, 2^63 - 1 and 2^32 - 1
abbrev pub greatest_number : ℤ
greatest_number = pos 18446744073709551615

abbrev pub greatest_long : ℤ
greatest_long = pos 9223372036854775807

abbrev pub greatest_unsigned : ℤ
greatest_unsigned = pos 4294967295

pub record EnumeratorExamples : Type 0 where
  -- `E = i`, `E = (long)&i`, and of an expression of which nothing is known
  pub not_constant :
      map (λ row. row.broken) (valued_enumerator_row 2 (Expression i) ∷ valued_enumerator_row 2 (Expression (value long)) ∷ valued_enumerator_row 2 Unknown ∷ [])
      ≡ breaks_at EnumeratorIsNotConstant 2 ∷ breaks_at EnumeratorIsNotConstant 2 ∷ [] ∷ []
  -- `E = sizeof(i)`, the one behind it, and `H = (char)300`: ints
  pub ints :
      valued unsigned_long (pos 4) ∷ counted (valued unsigned_long (pos 4)) ∷ valued char (pos 44) ∷ (counted_enumerator_row None).fact ∷ []
      ≡ constant_value int (pos 4) ∷ constant_value int (pos 5) ∷ constant_value int (pos 44) ∷ constant_value int (pos 0) ∷ []
  -- `E = 4294967295u`, the one behind it, and `E = 9223372036854775807`, the one behind it
  pub wider :
      valued unsigned_int greatest_unsigned ∷ counted (valued unsigned_int greatest_unsigned) ∷ valued long greatest_long ∷ counted (valued long greatest_long) ∷ []
      ≡ constant_value unsigned_int greatest_unsigned ∷ constant_value long (pos 4294967296) ∷ constant_value long greatest_long
      ∷ constant_value unsigned_long (pos 9223372036854775808) ∷ []
  -- `E1 = (FORCE le32)1`, which stays restricted, and the one behind it, which is plain
  pub restricted_ones : valued le32 (pos 1) ∷ counted (valued le32 (pos 1)) ∷ [] ≡ constant_value le32 (pos 1) ∷ constant_value int (pos 2) ∷ []
  -- behind 2^64 - 1, and behind what isn't known
  pub no_next : counted (valued unsigned_long greatest_number) ∷ counted Unknown ∷ [] ≡ Unknown ∷ Unknown ∷ []

-- Enumerations

abbrev pub with_expression : Fact → SeenEnumerator
with_expression fact = record { has_expression = true; fact = fact }

abbrev pub without_expression : Fact → SeenEnumerator
without_expression fact = record { has_expression = false; fact = fact }

abbrev pub names_type : TypeTree → Fact
names_type type_ = NamedType type_

-- what the enumerator before it is followed by
abbrev pub and_next : Fact → List SeenEnumerator
and_next fact = with_expression fact ∷ without_expression (counted fact) ∷ []

abbrev pub kind_of : List SeenEnumerator → Fact
kind_of enumerators = (enumeration_row 1 enumerators).fact

abbrev pub one : Fact
one = valued le32 (pos 1)

pub record EnumerationRowExamples : Type 0 where
  -- `{ E = sizeof(i), G, H = (char)300 }`, `{ E = -1, G = 4294967295 }`, `{ H = 9223372036854775807, I }`, `{ E = 4294967295 }`
  pub kinds :
      map kind_of
      ((with_expression (valued unsigned_long (pos 4)) ∷ without_expression (counted (valued unsigned_long (pos 4))) ∷ with_expression (valued char (pos 44)) ∷ [])
      ∷ (with_expression (valued int (negsuc 0)) ∷ with_expression (valued long greatest_unsigned) ∷ []) ∷ and_next (valued long greatest_long)
      ∷ (with_expression (valued long greatest_unsigned) ∷ []) ∷ [])
      ≡ names_type int ∷ names_type long ∷ names_type unsigned_long ∷ names_type unsigned_int ∷ []
  -- `{ E = -1, G = 18446744073709551615u }`, `{ E = 18446744073709551615u, G }`
  pub out_of_range :
      map (λ enumerators. (enumeration_row 1 enumerators).broken)
      ((with_expression (valued int (negsuc 0)) ∷ with_expression (valued unsigned_long greatest_number) ∷ []) ∷ and_next (valued unsigned_long greatest_number) ∷ [])
      ≡ breaks_at EnumeratorOutOfRange 1 ∷ breaks_at EnumeratorOutOfRange 1 ∷ []
  -- `{ E1 = (FORCE le32)1, E2 = 2 }`, `{ E1 = (FORCE le32)1, E2 = (FORCE be32)2 }`, `{ E1 = 3, E2 = (FORCE le32)1 }`, `{ E1 = (FORCE le32)1, E2 }`
  pub mixed :
      map (λ enumerators. (enumeration_row 1 enumerators).failures)
      ((with_expression one ∷ with_expression (valued int (pos 2)) ∷ []) ∷ (with_expression one ∷ with_expression (valued be32 (pos 2)) ∷ [])
      ∷ (with_expression (valued int (pos 3)) ∷ with_expression one ∷ []) ∷ and_next one ∷ [])
      ≡ (fails_with B2 1 0 (Some le32) (Some int) [] ∷ []) ∷ (fails_with B2 1 0 (Some le32) (Some be32) [] ∷ [])
      ∷ (fails_with B2 1 0 (Some le32) (Some int) [] ∷ []) ∷ (fails_with B2 1 0 (Some le32) (Some int) [] ∷ []) ∷ []
  -- the mixed ones are the first plain type
  pub mixed_type : kind_of (and_next one) ≡ names_type int
  -- `{ E0, E1 = (FORCE le32)1, E2 = (FORCE le32)2 }` is restricted, and so is E0 behind it, but not in it
  pub shared :
      enumeration_row 1 (without_expression (valued int (pos 0)) ∷ with_expression one ∷ with_expression (valued le32 (pos 2)) ∷ [])
      ≡ record { fact = names_type le32; broken = []; failures = []; passed = [] }
  pub named_behind :
      map (λ is_behind. enumerator_named is_behind (without_expression (valued int (pos 0)) ∷ with_expression one ∷ []) (valued int (pos 0))) (true ∷ false ∷ [])
      ≡ constant_value le32 (pos 0) ∷ constant_value int (pos 0) ∷ []
  -- where one isn't known, nothing is
  pub unknown : enumeration_row 1 (with_expression Unknown ∷ []) ≡ record { fact = Unknown; broken = []; failures = []; passed = [] }
