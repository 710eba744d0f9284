-- Each example computes.
use Rattle.std.proofs.Common.{refl}
use Rattle.meaning_constants.proofs.constants.worked_examples.Goals as goal

pub returns-clause-conversions : goal.returns-clause-conversions
returns-clause-conversions c = record {
  zero_signed = refl;
  zero_unsigned = refl;
  minus_one_signed = refl;
  minus_one_unsigned = refl;
  two_hundred = refl;
  nine_bits = refl;
  nine_bits_unsigned = refl;
  behind_int = refl;
  before_int = refl;
  two_to_64 = refl;
}

pub returns-clause-operators : goal.returns-clause-operators
returns-clause-operators c = record {
  compared = refl;
  divided_by_zero = refl;
  counts = refl;
  long_shift = refl;
  wraps = refl;
  sign_copied = refl;
  least_int = refl;
  cut_to_zero = refl;
  unsigned_wraps = refl;
  complements = refl;
  negated = refl;
  wide = refl;
  bits = refl;
}

pub returns-clause-evaluated : goal.returns-clause-evaluated
returns-clause-evaluated c = record {
  chosen = refl;
  common_kind = refl;
  without_middle = refl;
  decided = refl;
  both = refl;
  not_decided = refl;
  pointers = refl;
}

pub returns-clause-casts : goal.returns-clause-casts
returns-clause-casts c = record {
  narrow = refl;
  characters = refl;
  sizes = refl;
  no_sizes = refl;
}

pub returns-clause-fouled : goal.returns-clause-fouled
returns-clause-fouled c = record {
  complement = refl;
  cleared = refl;
  compared = refl;
  again = refl;
  chosen = refl;
}

pub returns-clause-enumerators : goal.returns-clause-enumerators
returns-clause-enumerators c = record {
  first = refl;
  counted = refl;
  last = refl;
  written = refl;
  restricted = refl;
  fouled = refl;
  enumerations = refl;
}
