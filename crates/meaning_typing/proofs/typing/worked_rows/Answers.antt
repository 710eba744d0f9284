-- Each example computes.
use Rattle.std.proofs.Common.{refl}
use Rattle.meaning_typing.proofs.typing.worked_rows.Goals as goal

pub returns-clause-failures : goal.returns-clause-failures
returns-clause-failures c = record {
  mixed = refl;
  loaded = refl;
  stored = refl;
  in_parentheses = refl;
  element = refl;
  under_address = refl;
  twice = refl;
  under_element = refl;
  again = refl;
  argument = refl;
}

pub returns-clause-constraints : goal.returns-clause-constraints
returns-clause-constraints c = record {
  no_pointer = refl;
  inner = refl;
  no_address = refl;
  no_function = refl;
  no_object = refl;
  too_few = refl;
  void_argument = refl;
  void_stored = refl;
  nothing = refl;
}
