-- Each example computes.
use Rattle.std.proofs.Common.{refl}
use Rattle.meaning_control.proofs.control.worked_examples.Goals as goal

pub returns-clause-conditions : goal.returns-clause-conditions
returns-clause-conditions c = record {
  either = refl;
  both = refl;
  without_middle = refl;
  negated = refl;
  constant = refl;
  of_statements = refl;
  expected = refl;
  measured = refl;
}

pub returns-clause-values : goal.returns-clause-values
returns-clause-values c = record {
  stored = refl;
  arguments = refl;
  by_name = refl;
  declared = refl;
  tested = refl;
  static = refl;
  listed = refl;
  addressed = refl;
}

pub returns-clause-loops : goal.returns-clause-loops
returns-clause-loops c = record {
  turns = refl;
  once = refl;
  never = refl;
  left = refl;
  dies = refl;
  continued = refl;
  stepped = refl;
  in_condition = refl;
}

pub returns-clause-switches : goal.returns-clause-switches
returns-clause-switches c = record {
  cases = refl;
  past = refl;
  constant = refl;
  constant_past = refl;
  constant_default = refl;
  inner = refl;
  in_loop = refl;
}

pub returns-clause-jumps : goal.returns-clause-jumps
returns-clause-jumps c = record {
  over_statements = refl;
  outward = refl;
  not_inward = refl;
  behind_both = refl;
  within = refl;
}
