-- Each example computes.
use Rattle.std.proofs.Common.{refl}
use Rattle.meaning_operands.proofs.operands.worked_examples.Goals as goal

pub returns-clause-operators : goal.returns-clause-operators
returns-clause-operators c = record {
  one_type = refl;
  with_zero = refl;
  zero_first = refl;
  plain_types = refl;
  two_types = refl;
  a_plain_one = refl;
  compared = refl;
  compared_with_zero = refl;
  unlike_compared = refl;
  unlike_right_ones = refl;
  compared_with_them = refl;
  combined_and_stored = refl;
  unlike_stored = refl;
  stored_in_a_plain_one = refl;
  degrades = refl;
  degrades_beside_zero = refl;
  degrades_beside_a_plain_one = refl;
  calculated = refl;
  stored = refl;
  stored_from_a_restricted_one = refl;
  stored_plain = refl;
  last = refl;
}

pub returns-clause-fouled : goal.returns-clause-fouled
returns-clause-fouled c = record {
  narrow = refl;
  wide = refl;
  signed = refl;
  again = refl;
  plain_one = refl;
  both = refl;
  either = refl;
  other = refl;
  last = refl;
  not_the_first = refl;
  stored = refl;
  tested = refl;
  right_one = refl;
  unlike = refl;
  not_tested = refl;
}

pub returns-clause-beside_pointers : goal.returns-clause-beside_pointers
returns-clause-beside_pointers c = record {
  compared = refl;
  fouled_one = refl;
  added = refl;
  stored = refl;
  index = refl;
  left_arm = refl;
  right_arm = refl;
}

pub returns-clause-pointers : goal.returns-clause-pointers
returns-clause-pointers c = record {
  from_user = refl;
  below = refl;
  const_target = refl;
  arrays = refl;
  lengths = refl;
  void_targets = refl;
  null = refl;
  to_integers = refl;
  other_targets = refl;
}

pub returns-clause-integers : goal.returns-clause-integers
returns-clause-integers c = record {
  zeros = refl;
  to_pointers = refl;
  restricted = refl;
  to_restricted = refl;
  plain_kinds = refl;
}

pub returns-clause-others : goal.returns-clause-others
returns-clause-others c = record {
  structures = refl;
  to_structures = refl;
  voids = refl;
  accesses = refl;
}
