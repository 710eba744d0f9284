-- Each example computes.
use Rattle.std.proofs.Common.{ℕ, refl}
use Rattle.meaning_text.specs.Punctuators.{plain_punctuators, digraphs, punctuators, punctuator_of}
use Rattle.meaning_text.specs.Kinds.{kind_in}
use Rattle.meaning_text.specs.Fronts.{front_of}
use Rattle.meaning_conditions.proofs.conditions.worked_examples.Goals as goal

-- names what an example opens
opened : ℕ
unfolding plain_punctuators digraphs punctuators punctuator_of kind_in front_of
opened = 0

pub returns-clause-grouping : goal.returns-clause-grouping
unfolding opened
returns-clause-grouping c = record {
  all_ranks = refl;
  bits_by_rank = refl;
  from_the_left = refl;
  conditionals = refl;
}

pub returns-clause-operators : goal.returns-clause-operators
unfolding opened
returns-clause-operators c = record {
  neighbouring_ranks = refl;
  each_operator = refl;
  orders = refl;
  shifted_out = refl;
  complements = refl;
  each_truth_is_signed = refl;
  one_unsigned_operand = refl;
  a_count_is_no_operand = refl;
  great_numbers = refl;
}

pub returns-clause-types : goal.returns-clause-types
unfolding opened
returns-clause-types c = record {
  mixed_comparisons = refl;
  by_value_and_suffix = refl;
  above_the_greatest = refl;
  sums_wrap = refl;
  unsigned_sums_wrap = refl;
  wrapped_sign = refl;
  by_both_arms = refl;
  by_the_other_arm = refl;
  by_an_unevaluated_arm = refl;
  truths_are_signed = refl;
}

pub returns-clause-numbers : goal.returns-clause-numbers
unfolding opened
returns-clause-numbers c = record {
  right_shifts = refl;
  counts_are_taken_modulo_64 = refl;
  quotients = refl;
  least_by_minus_one = refl;
  characters = refl;
  identifiers = refl;
}

pub returns-clause-zeros : goal.returns-clause-zeros
unfolding opened
returns-clause-zeros c = record { unevaluated = refl; evaluated = refl }

pub returns-clause-wrong : goal.returns-clause-wrong
unfolding opened
returns-clause-wrong c = record {
  unfinished = refl;
  conditionals = refl;
  operators = refl;
  one_sided = refl;
  strangers = refl;
  refused_numbers = refl;
  refused_characters = refl;
  refused_unevaluated = refl;
}
