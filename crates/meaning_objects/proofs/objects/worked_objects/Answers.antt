-- Each example computes.
use Rattle.std.proofs.Common.{refl}
use Rattle.meaning_objects.proofs.objects.worked_objects.Goals as goal

pub returns-clause-objects : goal.returns-clause-objects
returns-clause-objects c = record {
  shared = refl;
  of_functions = refl;
  apart = refl;
  functions = refl;
  by_typedef = refl;
}

pub returns-clause-callees : goal.returns-clause-callees
returns-clause-callees c = record {
  by_name = refl;
  in_parentheses = refl;
  by_pointer = refl;
  through_star = refl;
}

pub returns-clause-definitions : goal.returns-clause-definitions
returns-clause-definitions c = record {
  of_functions = refl;
  tentative = refl;
  of_objects = refl;
  undefined = refl;
}

pub returns-clause-parameters : goal.returns-clause-parameters
returns-clause-parameters c = record {
  listed = refl;
  of_void = refl;
  of_nothing = refl;
  directly_behind = refl;
  behind_attributes = refl;
  by_typedef = refl;
}
