-- Worked examples: what conversions say.
use Rattle.std.specs.Prelude.{◌≡◌, true, false, List, [], ◌∷◌, map, replicate, Some, None}
use Rattle.vocabulary.specs.declared.int_kind.IntKind.TheVariants.{Bool as BoolKind, Char, UChar, Int, Long}
use Rattle.vocabulary.specs.declared.rule.RuleCode.TheVariants.{A1, A2, A4, B3, N1}
use Rattle.meaning_types.specs.Types.{TypeTree, NumberedSpace, pointer_to}
use Rattle.meaning_types.specs.examples.Types.{in_space, noderef_in, only_noderef, only_const, user, plain, int_with, flagged_int}
use Rattle.meaning_types.specs.examples.Derived.{void, array_of, restricted_at, structure_at, union_at}
use Rattle.meaning_operands.specs.Operands.{Operand}
use Rattle.meaning_operands.specs.Conversions.{ConversionAnswer, Fine, Fails, Constraint, conversion_answer}
use Rattle.meaning_operands.specs.Accesses.{access_answer}
use Rattle.meaning_operands.specs.examples.Operands.{le32, be32, value, zero, int, to_int, to_user_int, to_int_in_space_1}

-- of no null pointer constant, to each of these
abbrev pub answers_to : Operand → List TypeTree → List ConversionAnswer
answers_to from types = map (λ to. conversion_answer from false to) types

abbrev pub to_void : TypeTree
to_void = pointer_to void

abbrev pub to_char : TypeTree
to_char = pointer_to (plain Char)

-- the null pointer constant of type `void *`
abbrev pub null_to : TypeTree → ConversionAnswer
null_to to = conversion_answer (value to_void) true to

-- three ints in a row, also at the user's
abbrev pub three_ints : TypeTree
three_ints = array_of (plain Int) (Some 3)

abbrev pub three_user_ints : TypeTree
three_user_ints = array_of (flagged_int (noderef_in user)) (Some 3)

pub record PointerConversions : Type 0 where
  pub from_user : answers_to (value to_user_int) (to_int ∷ to_char ∷ to_void ∷ to_int_in_space_1 ∷ []) ≡ replicate 4 (Fails A1)
  pub below : answers_to (value (pointer_to to_user_int)) (pointer_to to_int ∷ []) ≡ Fails A1 ∷ []
  pub const_target : answers_to (value (pointer_to (int_with only_const (noderef_in user)))) (to_user_int ∷ []) ≡ Fine ∷ []
  -- flags of an array stand at its element
  pub arrays : answers_to (value (pointer_to three_user_ints)) (pointer_to three_ints ∷ pointer_to (array_of (plain Char) (Some 3)) ∷ []) ≡ Fails A1 ∷ Fails A2 ∷ []
  pub lengths : answers_to (value (pointer_to three_ints)) (pointer_to (array_of (plain Int) None) ∷ []) ≡ Fails A2 ∷ []
  pub void_targets : answers_to (value to_void) (to_int ∷ to_user_int ∷ []) ≡ Fine ∷ Fails A1 ∷ []
  pub null : map null_to (to_int ∷ to_user_int ∷ to_void ∷ pointer_to le32 ∷ []) ≡ replicate 4 Fine
  pub to_integers : answers_to (value to_int) (plain BoolKind ∷ plain Long ∷ restricted_at 5 BoolKind ∷ []) ≡ Fine ∷ Fails A2 ∷ Fails A2 ∷ []
  pub other_targets : answers_to (value to_int) (to_char ∷ pointer_to le32 ∷ to_void ∷ []) ≡ Fails A2 ∷ Fails A2 ∷ Fine ∷ []

-- the constant 0 by a cast to char
abbrev pub zero_char : Operand
zero_char = record { of = plain Char; fouled = false; zero = true }

pub record IntegerConversions : Type 0 where
  pub zeros : answers_to zero (to_int ∷ plain BoolKind ∷ le32 ∷ []) ≡ Fails N1 ∷ Fine ∷ Fine ∷ []
  pub to_pointers : map (λ from. conversion_answer from false to_int) (int ∷ value le32 ∷ []) ≡ Fails A2 ∷ Fails A2 ∷ []
  pub restricted : answers_to (value le32) (be32 ∷ plain Int ∷ plain BoolKind ∷ le32 ∷ []) ≡ Fails B3 ∷ Fails B3 ∷ Fails B3 ∷ Fine ∷ []
  pub to_restricted : map (λ from. conversion_answer from false le32) (value (plain Char) ∷ zero_char ∷ []) ≡ Fails B3 ∷ Fine ∷ []
  pub plain_kinds : answers_to int (plain UChar ∷ plain BoolKind ∷ plain Long ∷ []) ≡ replicate 3 Fine

pub record OtherConversions : Type 0 where
  pub structures : answers_to (value (structure_at 7)) (structure_at 7 ∷ structure_at 8 ∷ union_at 7 ∷ plain Int ∷ []) ≡ Fine ∷ replicate 3 Constraint
  pub to_structures : map (λ from. conversion_answer from false (structure_at 7)) (int ∷ zero ∷ value to_int ∷ []) ≡ replicate 3 Constraint
  pub voids : answers_to (value void) (plain Int ∷ to_int ∷ structure_at 7 ∷ []) ≡ replicate 3 Constraint
  -- an access asks the outermost flags
  pub accesses :
      map access_answer (plain Int ∷ flagged_int only_noderef ∷ flagged_int (in_space (NumberedSpace 0)) ∷ to_user_int ∷ [])
      ≡ None ∷ Some A4 ∷ Some A4 ∷ None ∷ []
