-- Each example computes.
use Rattle.std.proofs.Common.{refl}
use Rattle.std.specs.Fmt.{digits}
use Rattle.meaning_warnings.proofs.texts.worked_examples.Goals as goal

pub returns-clause-types : goal.returns-clause-types
unfolding digits
returns-clause-types c = record {
  marks_in_order = refl;
  arrays_of_functions = refl;
  arrays_of_arrays = refl;
  parameters = refl;
  numbered_space = refl;
  named_space = refl;
  named_identity = refl;
  nameless_identity = refl;
  nameless_structure = refl;
  named_union = refl;
}

pub returns-clause-positions : goal.returns-clause-positions
unfolding digits
returns-clause-positions c = record {
  in_assignment = refl;
  in_argument = refl;
  in_last_argument = refl;
  in_initializer = refl;
  in_return = refl;
}

pub returns-clause-spaces : goal.returns-clause-spaces
unfolding digits
returns-clause-spaces c = record {
  base_types = refl;
  compared = refl;
  arms = refl;
  subtracted = refl;
  noderef = refl;
  space = refl;
  removed = refl;
  added = refl;
  redeclared = refl;
}

pub returns-clause-restricted : goal.returns-clause-restricted
unfolding digits
returns-clause-restricted c = record {
  degrades = refl;
  operands = refl;
  restricted_conversion = refl;
  cast_of = refl;
  cast_to = refl;
  fouled = refl;
  label = refl;
  assigned = refl;
}

pub returns-clause-others : goal.returns-clause-others
unfolding digits
returns-clause-others c = record {
  counts = refl;
  release = refl;
  exit = refl;
  null = refl;
  static = refl;
  shadows = refl;
  undefined = refl;
  returning = refl;
  do_while = refl;
  prototype = refl;
  bit_field = refl;
  truncates = refl;
}

pub returns-clause-errors : goal.returns-clause-errors
unfolding digits
returns-clause-errors c = record {
  preprocessing = refl;
  preprocessing_named = refl;
  error_directive = refl;
  syntax = refl;
  syntax_named = refl;
  unsupported = refl;
  scripts = refl;
  scripts_named = refl;
  expressions = refl;
  expressions_named = refl;
  statements = refl;
  statements_named = refl;
  declarations = refl;
  declarations_named = refl;
  initializers = refl;
  initializers_named = refl;
  no_token = refl;
}

pub returns-clause-ordered : goal.returns-clause-ordered
returns-clause-ordered c = record {
  by_token = refl;
  access_before_argument = refl;
  argument_behind_access = refl;
  comparison_before_degrading = refl;
  operands_before_test = refl;
  space_before_restricted_cast = refl;
  restricted_cast_before_truncation = refl;
  by_part = refl;
  one = refl;
}

pub returns-clause-units : goal.returns-clause-units
unfolding digits
returns-clause-units c = record {
  left_names_first = refl;
  by_default = refl;
  one_class = refl;
  in_a_header = refl;
  equal_lines = refl;
  off_between = refl;
  on_between = refl;
  switched_on = refl;
  switched_off = refl;
  left_on = refl;
  left_off = refl;
}
