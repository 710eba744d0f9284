-- The examples compute; types that differ do so in a part that tells them apart.
use Rattle.std.proofs.Common.{◌≡◌, ◌≢◌, refl, inl, inr, arith}
use Rattle.vocabulary.specs.declared.int_kind.IntKind.TheVariants.{Char, Int}
use Rattle.meaning_types.specs.Types.{TypeTree, no_flags, flags_of, pointer_to, bare, without_flags}
use Rattle.meaning_types.specs.Spaces.{TargetsMixSpaces}
use Rattle.meaning_types.specs.examples.Types.{only_const, only_volatile, only_noderef, in_space, user, plain, int_with, flagged_int}
use Rattle.meaning_types.proofs.types.worked_examples.Goals as goal

-- targets with equal flags don't mix spaces if they are equal but for qualifiers
equal_targets_do_not_mix : (t u : TypeTree) → flags_of t ≡ flags_of u → bare t ≡ bare u → TargetsMixSpaces t u → ⊥
equal_targets_do_not_mix t u flags equal (inl differ) = differ flags
equal_targets_do_not_mix t u flags equal (inr other) = other.0 equal

-- nor if they differ in more than flags
other_targets_do_not_mix :
    (t u : TypeTree) → flags_of t ≡ flags_of u → without_flags (bare t) ≢ without_flags (bare u) → TargetsMixSpaces t u → ⊥
other_targets_do_not_mix t u flags differ (inl unequal) = unequal flags
other_targets_do_not_mix t u flags differ (inr other) = differ other.1

pub returns-clause-ranges : goal.returns-clause-ranges
returns-clause-ranges c = record {
  signed_widths = refl;
  least_signed = refl;
  greatest_signed = refl;
  unsigned_widths = refl;
  least_unsigned = refl;
  greatest_unsigned = refl;
}

pub returns-clause-spellings : goal.returns-clause-spellings
returns-clause-spellings c = record {
  kinds = refl;
  marks_in_order = refl;
  pointer = refl;
  marked_pointer = refl;
  two_stars = refl;
  numbered_space = λ number. refl;
  spaces = λ number. refl;
}

pub returns-clause-levels : goal.returns-clause-levels
returns-clause-levels c = record {
  bare_at_each_level = refl;
  without_flags_at_each_level = refl;
  value_of_place = refl;
  flags = refl;
  any_flag = refl;
}

pub returns-clause-mixed : goal.returns-clause-mixed
returns-clause-mixed c = record {
  noderef = inl (λ e. grind arith);
  space = inl (λ e. grind arith);
  other_number = inl (λ e. grind arith);
  name_is_no_number = inl (λ e. grind arith);
  other_kind = inl (λ e. grind arith);
  deeper = inr (λ e. grind arith, refl);
}

pub returns-clause-unmixed : goal.returns-clause-unmixed
returns-clause-unmixed c = record {
  equal = equal_targets_do_not_mix (flagged_int only_noderef) (flagged_int only_noderef) refl refl;
  qualifiers = equal_targets_do_not_mix (int_with only_const only_noderef) (int_with only_volatile only_noderef) refl refl;
  deeper_qualifiers = equal_targets_do_not_mix (pointer_to (int_with only_const no_flags)) (pointer_to (plain Int)) refl refl;
  other_kind = other_targets_do_not_mix (plain Char) (plain Int) refl (λ e. grind arith);
  deeper_other_kind = other_targets_do_not_mix (pointer_to (plain Char)) (pointer_to (flagged_int only_noderef)) refl (λ e. grind arith);
  pointer_flags = equal_targets_do_not_mix (int_with only_volatile (in_space user)) (flagged_int (in_space user)) refl refl;
  integers = λ none. none;
  pointer_and_integer = λ none. none;
  integer_and_pointer = λ none. none;
}
