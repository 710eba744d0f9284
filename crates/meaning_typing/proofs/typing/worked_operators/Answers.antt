-- Each example computes.
use Rattle.std.proofs.Common.{refl}
use Rattle.meaning_typing.proofs.typing.worked_operators.Goals as goal

pub returns-clause-types : goal.returns-clause-types
returns-clause-types c = record {
  usual = refl;
  alone = refl;
  degraded = refl;
  kept_types = refl;
  moved = refl;
  pointer_arms = refl;
  other_arms = refl;
  last = refl;
  stored = refl;
  others = refl;
  unfouled = refl;
  bit_fields = refl;
}

pub returns-clause-addresses : goal.returns-clause-addresses
returns-clause-addresses c = record {
  constant = refl;
  null_pointers = refl;
}

pub returns-clause-meetings : goal.returns-clause-meetings
returns-clause-meetings c = record {
  compared = refl;
  alike = refl;
  met = refl;
  two_rules = refl;
  zeros = refl;
}

pub returns-clause-restricted : goal.returns-clause-restricted
returns-clause-restricted c = record {
  degrades = refl;
  first_one = refl;
  unlike_types = refl;
  alike = refl;
  fouled_ones = refl;
  compared_with_plain = refl;
  changes = refl;
  expected = refl;
}

pub returns-clause-casts : goal.returns-clause-casts
returns-clause-casts c = record {
  spaces = refl;
  added = refl;
  both = refl;
  restricted_ones = refl;
  truncated = refl;
  zeros = refl;
  truncated_too = refl;
}

pub returns-clause-forces : goal.returns-clause-forces
returns-clause-forces c = record {
  among_specifiers = refl;
  behind_star = refl;
  nowhere = refl;
  of_a_typedef = refl;
}

pub returns-clause-constraints : goal.returns-clause-constraints
returns-clause-constraints c = record {
  not_taken = refl;
  changed_or_alone = refl;
  taken = refl;
  without_size = refl;
  void_ones = refl;
  not_modifiable = refl;
  aggregates = refl;
  bad_casts = refl;
  good_casts = refl;
  sizes = refl;
  one_known = refl;
}
