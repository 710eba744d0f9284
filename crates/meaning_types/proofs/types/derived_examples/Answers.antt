-- The examples compute.
use Rattle.std.proofs.Common.{refl}
use Rattle.std.specs.Fmt.{digits}
use Rattle.meaning_types.proofs.types.derived_examples.Goals as goal

pub returns-clause-values : goal.returns-clause-values
returns-clause-values c = record {
  value = refl;
  array = refl;
  function = refl;
  integer = refl;
  parameters_too = refl;
  elements_too = refl;
}

pub returns-clause-same : goal.returns-clause-same
returns-clause-same c = record {
  const_target = refl;
  const_everywhere = refl;
  noderef = refl;
  restricted = refl;
  identities = refl;
  one_identity = refl;
  chars = refl;
  missing_length = refl;
  more_arguments = refl;
  fewer_parameters = refl;
  structure_and_union = refl;
  one_structure = refl;
}

pub returns-clause-pointers : goal.returns-clause-pointers
returns-clause-pointers c = record {
  arrays_mix = refl;
  arrays_of_others = refl;
  parameters_mix = refl;
  mixed_are_no_others = refl;
  others = refl;
  to_void = refl;
  from_void = refl;
  void_in_a_space = refl;
  lengths = refl;
  qualifiers = refl;
}

pub returns-clause-marks : goal.returns-clause-marks
returns-clause-marks c = record {
  array = refl;
  function = refl;
  besides = refl;
  later_space = refl;
  members_space = refl;
  members_elements = refl;
}

pub returns-clause-composites : goal.returns-clause-composites
returns-clause-composites c = record {
  second_length = refl;
  first_length = refl;
  first_element = refl;
  two_lengths = refl;
  first_of_same = refl;
  other_elements = refl;
  deeper = refl;
}

pub returns-clause-conversions : goal.returns-clause-conversions
returns-clause-conversions c = record {
  promotions = refl;
  table = refl;
  chars = refl;
  ints = refl;
  wider = refl;
  unsigned_wide = refl;
  higher_rank = refl;
  much_wider = refl;
  truth = refl;
}

pub returns-clause-spellings : goal.returns-clause-spellings
unfolding digits
returns-clause-spellings c = record {
  marks_in_order = refl;
  function = refl;
  no_parameters = refl;
  arrays = refl;
  restricted = refl;
  nameless = refl;
  structure = refl;
  union = refl;
  array_of_functions = refl;
  pointers = refl;
}
