-- Each example is what the plain program finds.
use Rattle.std.proofs.Common.{refl}
use Rattle.meaning_initializers.proofs.ExampleLemmas.{found_so, told_so}
use Rattle.meaning_initializers.proofs.initializers.worked_refusals.Goals as goal

pub returns-clause-extra : goal.returns-clause-extra
returns-clause-extra c = record {
  behind_array = found_so _ _ _ _ _ refl;
  behind_structure = found_so _ _ _ _ _ refl;
  behind_scalar = found_so _ _ _ _ _ refl;
  behind_union = found_so _ _ _ _ _ refl;
  in_inner_braces = found_so _ _ _ _ _ refl;
  behind_designator = found_so _ _ _ _ _ refl;
  flexible_member = found_so _ _ _ _ _ refl;
  flexible_elided = found_so _ _ _ _ _ refl;
  extra_unknown = found_so _ _ _ _ _ refl;
  long_string = found_so _ _ _ _ _ refl;
  behind_string = found_so _ _ _ _ _ refl;
  designated_behind_string = found_so _ _ _ _ _ refl;
}

pub returns-clause-designators : goal.returns-clause-designators
returns-clause-designators c = record {
  no_member = found_so _ _ _ _ _ refl;
  index_of_structure = found_so _ _ _ _ _ refl;
  member_of_array = found_so _ _ _ _ _ refl;
  great_index = found_so _ _ _ _ _ refl;
  negative_index = found_so _ _ _ _ _ refl;
  member_of_scalar = found_so _ _ _ _ _ refl;
  inner_index = found_so _ _ _ _ _ refl;
  not_counted = found_so _ _ _ _ _ refl;
  greatest_index = found_so _ _ _ _ _ refl;
  none_counted = found_so _ _ _ _ _ refl;
}

pub returns-clause-leaves : goal.returns-clause-leaves
returns-clause-leaves c = record {
  unlike = told_so _ _ _ _ refl;
  no_list = told_so _ _ _ _ refl;
  string_for_ints = told_so _ _ _ _ refl;
  string_for_restricted = told_so _ _ _ _ refl;
  string_in_parentheses = told_so _ _ _ _ refl;
  void_one = told_so _ _ _ _ refl;
  no_structure = told_so _ _ _ _ refl;
  no_constant = told_so _ _ _ _ refl;
  no_constant_pointer = told_so _ _ _ _ refl;
  structure_value = told_so _ _ _ _ refl;
  of_a_local = told_so _ _ _ _ refl;
  structure_of_a_local = told_so _ _ _ _ refl;
  constants = told_so _ _ _ _ refl;
  null_pointer = told_so _ _ _ _ refl;
  static_array = told_so _ _ _ _ refl;
  broken = told_so _ _ _ _ refl;
}
