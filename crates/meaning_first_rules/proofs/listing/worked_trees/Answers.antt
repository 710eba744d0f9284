-- Each example computes.
use Rattle.std.proofs.Common.{refl}
use Rattle.meaning_first_rules.proofs.listing.worked_trees.Goals as goal

pub returns-clause-declarations : goal.returns-clause-declarations
returns-clause-declarations c = record {
  stars = refl;
  spaces = refl;
  number = refl;
  function = refl;
  function_of_int = refl;
  no_specifiers = refl;
  lists_and_declarators = refl;
  first_declaration = refl;
  first_declaration_accessed = refl;
}

pub returns-clause-expressions : goal.returns-clause-expressions
returns-clause-expressions c = record {
  through = refl;
  address = refl;
  address_behind_pointer = refl;
  address_converted = refl;
  store_converted = refl;
  value_converted = refl;
  function = refl;
  number = refl;
  assignment = refl;
  assignment_to_flagged = refl;
  condition = refl;
  type_part = refl;
  unevaluated = refl;
}
