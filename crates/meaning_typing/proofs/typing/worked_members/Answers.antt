-- Each example computes.
use Rattle.std.proofs.Common.{refl}
use Rattle.meaning_typing.proofs.typing.worked_members.Goals as goal

pub returns-clause-types : goal.returns-clause-types
returns-clause-types c = record {
  plain_ones = refl;
  marks_of_place = refl;
  own_space = refl;
  through_nameless = refl;
  of_values = refl;
  loaded_fields = refl;
  declared_fields = refl;
  changed_fields = refl;
  addresses = refl;
  constant_addresses = refl;
}

pub returns-clause-accesses : goal.returns-clause-accesses
returns-clause-accesses c = record {
  loads = refl;
  told_as = refl;
  not_evaluated = refl;
  place_alone = refl;
}

pub returns-clause-constraints : goal.returns-clause-constraints
returns-clause-constraints c = record {
  no_pointer = refl;
  silent = refl;
  no_address = refl;
  address = refl;
  not_modifiable = refl;
  modifiable = refl;
  wrong_operands = refl;
  no_member = refl;
  no_aggregate = refl;
  void_ones = refl;
  incomplete_ones = refl;
  difference = refl;
  address_of_incomplete = refl;
  incomplete_loaded = refl;
  incomplete_changed = refl;
  incomplete_place = refl;
}

pub returns-clause-wholes : goal.returns-clause-wholes
returns-clause-wholes c = record {
  incompatible = refl;
  argument = refl;
  arms = refl;
  casts = refl;
  conditions = refl;
  sizes = refl;
}

pub returns-clause-offsets : goal.returns-clause-offsets
returns-clause-offsets c = record {
  silent = refl;
  typed = refl;
  no_array = refl;
  by_pointer = refl;
  by_void = refl;
  restricted_index = refl;
  no_aggregate = refl;
  no_member = refl;
  incomplete = refl;
  field = refl;
  bad_indexes = refl;
  last_index = refl;
  unknown_index = refl;
  unknown_type = refl;
}
