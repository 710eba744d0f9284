-- Each example computes.
use Rattle.std.proofs.Common.{refl}
use Rattle.meaning_typing.proofs.typing.worked_examples.Goals as goal

pub returns-clause-surroundings : goal.returns-clause-surroundings
returns-clause-surroundings c = record {
  under_address = refl;
  on_the_left = refl;
  functions = refl;
  scopes = refl;
  unit = refl;
  loads = refl;
  stores = refl;
  evaluated = refl;
  both_sides = refl;
}

pub returns-clause-facts : goal.returns-clause-facts
returns-clause-facts c = record {
  names = refl;
  through = refl;
  unknown = refl;
  character = refl;
  string = refl;
  string_place = refl;
  through_function = refl;
  function_place = refl;
  function_address = refl;
  no_place = refl;
  inner = refl;
  lengths = refl;
  first = refl;
  automatic = refl;
  linked = refl;
}

pub returns-clause-offsets : goal.returns-clause-offsets
returns-clause-offsets c = record {
  first = refl;
  second = refl;
  element = refl;
  behind = refl;
  before = refl;
  not_constant = refl;
  unknown = refl;
  no_member = refl;
  no_aggregate = refl;
  no_array = refl;
  nothing_is_told = refl;
}
