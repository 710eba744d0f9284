-- Each example computes.
use Rattle.std.proofs.Common.{refl}
use Rattle.meaning_statements.proofs.statements.worked_statements.Goals as goal

pub returns-clause-conditions : goal.returns-clause-conditions
returns-clause-conditions c = record {
  aggregate = refl;
  no_value = refl;
  scalars = refl;
  fouled = refl;
  unknown = refl;
  unbraced = refl;
  braced = refl;
  both = refl;
  wants = (refl, refl, refl, refl, refl, refl);
}

pub returns-clause-values : goal.returns-clause-values
returns-clause-values c = record {
  pointer = refl;
  aggregate = refl;
  no_value = refl;
  integers = refl;
  fouled = refl;
}

pub returns-clause-labels : goal.returns-clause-labels
returns-clause-labels c = record {
  object = refl;
  pointer = refl;
  integer = refl;
  no_value = refl;
  fouled = refl;
  same = refl;
  plain = refl;
  zero_joins = refl;
  other = refl;
  restricted = refl;
  both = refl;
  unknown = refl;
}

pub returns-clause-numbers : goal.returns-clause-numbers
returns-clause-numbers c = record {
  narrow = refl;
  wide = refl;
  below = refl;
  promoted = refl;
  fouled = refl;
  restricted = refl;
  none_of_pointer = refl;
}

pub returns-clause-returns : goal.returns-clause-returns
returns-clause-returns c = record {
  void_on = refl;
  no_value = refl;
  value_from_void = refl;
  without_value = refl;
  void_from_int = refl;
  value_from_int = refl;
  converted = refl;
  outside = refl;
}
