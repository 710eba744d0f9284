-- The laws of each operator, and the examples, which compute.
use Rattle.std.proofs.Common.{refl}
use Rattle.meaning_constants.proofs.Wrapping.{sums_wrap, differences_wrap, products_wrap, shifts_wrap, negations_wrap, complements_wrap, conversions_compose, sums_narrow, differences_narrow, products_narrow, shifts_narrow}
use Rattle.meaning_constants.proofs.BitOperators.{ands_wrap, ors_wrap, exclusive_ors_wrap, ands_narrow, ors_narrow, exclusive_ors_narrow}
use Rattle.meaning_constants.proofs.constants.wrapping_commutes.Goals as goal

pub returns-clause-before : goal.returns-clause-before
returns-clause-before c = record {
  sums = sums_wrap;
  differences = differences_wrap;
  products = products_wrap;
  shifts = shifts_wrap;
  negations = negations_wrap;
  complements = complements_wrap;
  ands = ands_wrap;
  ors = ors_wrap;
  exclusive_ors = exclusive_ors_wrap;
}

pub returns-clause-composed : goal.returns-clause-composed
returns-clause-composed c = conversions_compose

pub returns-clause-behind : goal.returns-clause-behind
returns-clause-behind c = record {
  sums = sums_narrow;
  differences = differences_narrow;
  products = products_narrow;
  shifts = shifts_narrow;
  ands = ands_narrow;
  ors = ors_narrow;
  exclusive_ors = exclusive_ors_narrow;
}

pub returns-clause-others : goal.returns-clause-others
returns-clause-others c = record {
  quotients = refl;
  remainders = refl;
  right_shifts = refl;
  less = refl;
  greater = refl;
  less_or_equal = refl;
  greater_or_equal = refl;
  equal = refl;
  not_equal = refl;
  logical_not = refl;
  divisors = refl;
  counts = refl;
  to_bool = refl;
  to_int = refl;
  to_long = refl;
}
