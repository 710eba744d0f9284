-- Each example computes.
use Rattle.std.proofs.Common.{refl}
use Rattle.meaning_typing.proofs.typing.worked_declarations.Goals as goal

pub returns-clause-sizes : goal.returns-clause-sizes
returns-clause-sizes c = record {
  sizes = refl;
}

pub returns-clause-parts : goal.returns-clause-parts
returns-clause-parts c = record {
  elements = refl;
  good_elements = refl;
  results = refl;
  behind_bad_ones = refl;
  no_type_behind = refl;
  unmeasured = refl;
  bitwise = refl;
  empty_list = refl;
}

pub returns-clause-completeness : goal.returns-clause-completeness
returns-clause-completeness c = record {
  in_block = refl;
  array_in_block = refl;
  in_file = refl;
  told_later = refl;
  behind_function = refl;
  definitions = refl;
  void_parameter = refl;
  twice = refl;
  twice_without_type = refl;
}

pub returns-clause-failures : goal.returns-clause-failures
returns-clause-failures c = record {
  new_ones = refl;
  declared_before = refl;
  tentative_twice = refl;
  new_function = refl;
  hidden = refl;
  hiding_parameters = refl;
  other_contexts = refl;
  same_sums = refl;
  among_specifiers = refl;
}

pub returns-clause-initializers : goal.returns-clause-initializers
returns-clause-initializers c = record {
  within = refl;
  behind = refl;
  linked = refl;
  contexts = refl;
  otherwise = refl;
  first_of_two = refl;
  declarators = refl;
}
