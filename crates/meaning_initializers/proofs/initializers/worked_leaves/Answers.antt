-- Each example is what the plain program finds.
use Rattle.std.proofs.Common.{refl}
use Rattle.meaning_initializers.proofs.ExampleLemmas.{found_so}
use Rattle.meaning_initializers.proofs.initializers.worked_leaves.Goals as goal

pub returns-clause-arrays : goal.returns-clause-arrays
returns-clause-arrays c = record {
  positions = found_so _ _ _ _ _ refl;
  elided = found_so _ _ _ _ _ refl;
  braced = found_so _ _ _ _ _ refl;
  mixed = found_so _ _ _ _ _ refl;
  values = found_so _ _ _ _ _ refl;
  through_parts = found_so _ _ _ _ _ refl;
  overridden = found_so _ _ _ _ _ refl;
  string_in_braces = found_so _ _ _ _ _ refl;
  strings = found_so _ _ _ _ _ refl;
  string_alone = found_so _ _ _ _ _ refl;
  without_zero = found_so _ _ _ _ _ refl;
}

pub returns-clause-aggregates : goal.returns-clause-aggregates
returns-clause-aggregates c = record {
  into_member = found_so _ _ _ _ _ refl;
  braced_member = found_so _ _ _ _ _ refl;
  nameless_bit_fields = found_so _ _ _ _ _ refl;
  union_in_the_middle = found_so _ _ _ _ _ refl;
  named_in_union = found_so _ _ _ _ _ refl;
  empty_structure = found_so _ _ _ _ _ refl;
  empty_in_braces = found_so _ _ _ _ _ refl;
  value_elided = found_so _ _ _ _ _ refl;
  parts_elided = found_so _ _ _ _ _ refl;
  empty_list = found_so _ _ _ _ _ refl;
  scalar_in_braces = found_so _ _ _ _ _ refl;
}
