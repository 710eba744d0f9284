-- Each example computes.
use Rattle.std.proofs.Common.{refl}
use Rattle.meaning_statements.proofs.statements.worked_jumps.Goals as goal

pub returns-clause-targets : goal.returns-clause-targets
returns-clause-targets c = record {
  left = refl;
  continued = refl;
  in_condition = refl;
  in_step = refl;
  in_body_of_for = refl;
  in_do = refl;
  reached = refl;
  first = refl;
  none = refl;
  labels = refl;
  other_labels = refl;
  no_labels = refl;
}

pub returns-clause-switches : goal.returns-clause-switches
returns-clause-switches c = record {
  case_outside = refl;
  default_outside = refl;
  in_switch = refl;
  twice = refl;
  one_in_another = refl;
  three_times = refl;
  others = refl;
  in_another = refl;
  two_defaults = refl;
  one_default = refl;
  entered = refl;
  not_entered = refl;
  outside_functions = refl;
}

pub returns-clause-loops : goal.returns-clause-loops
returns-clause-loops c = record {
  no_loop = refl;
  no_loop_around = refl;
  condition = refl;
  step = refl;
  in_loop = refl;
  in_switch = refl;
  loop_around = refl;
  in_expression = refl;
}

pub returns-clause-gotos : goal.returns-clause-gotos
returns-clause-gotos c = record {
  no_label = refl;
  label = refl;
  twice = refl;
  one_in_another = refl;
  entered = refl;
  left = refl;
  none_outside = refl;
  none_around = refl;
  outermost = refl;
  returns_outside = refl;
}
