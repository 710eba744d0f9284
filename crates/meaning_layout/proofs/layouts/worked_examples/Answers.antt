-- Each example computes.
use Rattle.std.proofs.Common.{refl}
use Rattle.meaning_layout.proofs.layouts.worked_examples.Goals as goal

pub returns-clause-plain : goal.returns-clause-plain
returns-clause-plain c = record {
  empty = refl;
  arrays = refl;
  three_sizes = refl;
  attributes_before_the_tag = refl;
  without_a_length = refl;
  unions = refl;
  unnamed_in_a_union = refl;
}

pub returns-clause-fields : goal.returns-clause-fields
returns-clause-fields c = record {
  next_unit = refl;
  width_0 = refl;
  width_0_before_a_char = refl;
  unnamed_raises_nothing = refl;
  long_unit = refl;
  char_unit = refl;
  behind_a_field = refl;
  units_of_two_types = refl;
  bools = refl;
  char_in_the_unit = refl;
}

pub returns-clause-written : goal.returns-clause-written
returns-clause-written c = record {
  packed_int = refl;
  packed_and_aligned = refl;
  aligned_in_packed = refl;
  packed_fields = refl;
  aligned_body = refl;
  aligned_member = refl;
  aligned_field = refl;
  one_of_two = refl;
  both = refl;
}

pub returns-clause-sizes : goal.returns-clause-sizes
returns-clause-sizes c = record {
  largest = refl;
  one_more = refl;
  padding_counts = refl;
  padding_is_too_large = refl;
  unions = refl;
  empty_ones = refl;
}

pub returns-clause-types : goal.returns-clause-types
returns-clause-types c = record {
  signed = refl;
  unsigned = refl;
  restricted = refl;
  pointers = refl;
  arrays = refl;
  aggregates = refl;
  incomplete = refl;
  largest = refl;
  too_large = refl;
}

pub returns-clause-members : goal.returns-clause-members
returns-clause-members c = record {
  offsets_told = refl;
  fields_told = refl;
  flexible = refl;
}

pub returns-clause-telling : goal.returns-clause-telling
returns-clause-telling c = record {
  inner_first = refl;
  outer_then = refl;
  as_a_union = refl;
  not_told = refl;
  too_early = refl;
  told_twice = refl;
  first_reason = refl;
  no_bit_field = refl;
  field_with_0 = refl;
  body_with_0 = refl;
  offset = refl;
  no_aggregate = refl;
  field = refl;
}

pub returns-clause-names : goal.returns-clause-names
returns-clause-names c = record {
  own = refl;
  anonymous = refl;
  bit_field = refl;
  first_of_two = refl;
  no_name = refl;
  named = refl;
  not_told = refl;
  own_bit = refl;
  anonymous_bit = refl;
  too_early = refl;
  told_twice = refl;
}
