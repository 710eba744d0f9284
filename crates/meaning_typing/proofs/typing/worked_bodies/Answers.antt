-- Each example computes.
use Rattle.std.proofs.Common.{refl}
use Rattle.meaning_typing.proofs.typing.worked_bodies.Goals as goal

pub returns-clause-widths : goal.returns-clause-widths
returns-clause-widths c = record {
  bad = refl;
  good = refl;
  restricted_ones = refl;
  one_bit = refl;
  more_bits = refl;
  unknown = refl;
}

pub returns-clause-complete : goal.returns-clause-complete
returns-clause-complete c = record {
  incomplete = refl;
  complete = refl;
  flexible = refl;
  flexible_incomplete = refl;
  nameless = refl;
  named_type = refl;
  nameless_type = refl;
}

pub returns-clause-members : goal.returns-clause-members
returns-clause-members c = record {
  twice = refl;
  twice_by_nameless = refl;
  twice_deeper = refl;
  apart = refl;
  itself = refl;
  pointer_to_itself = refl;
  not_last = refl;
  alone = refl;
  in_union = refl;
  last = refl;
  last_of_two = refl;
  widths = refl;
  width_of_twice = refl;
  width_of_another = refl;
  nameless_twice = refl;
  incomplete_fields = refl;
  bad_elements = refl;
  nameless_structure = refl;
}

pub returns-clause-layouts : goal.returns-clause-layouts
returns-clause-layouts c = record {
  fields = refl;
  aligned_member = refl;
  aligned_field = refl;
  aligned_before_tag = refl;
  packed_behind = refl;
  packed_before = refl;
  nameless = refl;
  no_members = refl;
  too_large = refl;
  largest = refl;
}

pub returns-clause-tags : goal.returns-clause-tags
returns-clause-tags c = record {
  other_kind = refl;
  again = refl;
  enumeration_of_it = refl;
  named_again = refl;
  in_other_scope = refl;
  behind_attributes = refl;
  behind_more_attributes = refl;
  bitwise_structure = refl;
  bitwise_enumeration = refl;
  named_before = refl;
  assertions = refl;
}

pub returns-clause-uses : goal.returns-clause-uses
returns-clause-uses c = record {
  found = refl;
  missing = refl;
}
