-- Each example computes.
use Rattle.std.proofs.Common.{refl}
use Rattle.meaning_constants.proofs.constants.worked_nodes.Goals as goal

pub returns-clause-nodes : goal.returns-clause-nodes
returns-clause-nodes c = record {
  literals = refl;
  names = refl;
  parentheses = refl;
  operators = refl;
  casts = refl;
  unevaluated = refl;
  untyped = refl;
  never = refl;
  never_alone = refl;
  pointers = refl;
}

pub returns-clause-sizes : goal.returns-clause-sizes
returns-clause-sizes c = record {
  integers = refl;
  operands = refl;
  of_types = refl;
  one = refl;
  arrays = refl;
  pointers = refl;
  alignments = refl;
  greatest = refl;
  no_size = refl;
  offsets = refl;
  offset_of_element = refl;
  no_layout = refl;
  no_offset = refl;
}

pub returns-clause-kept : goal.returns-clause-kept
returns-clause-kept c = record {
  bit_fields = refl;
  narrow_fields = refl;
  whole_fields = refl;
  wide_fields = refl;
  other_fields = refl;
  bits = refl;
  numbers = refl;
}
