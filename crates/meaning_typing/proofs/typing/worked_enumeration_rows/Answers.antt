-- Each example computes.
use Rattle.std.proofs.Common.{refl}
use Rattle.meaning_typing.proofs.typing.worked_enumeration_rows.Goals as goal

pub returns-clause-enumerators : goal.returns-clause-enumerators
returns-clause-enumerators c = record {
  not_constant = refl;
  ints = refl;
  wider = refl;
  restricted_ones = refl;
  no_next = refl;
}

pub returns-clause-enumerations : goal.returns-clause-enumerations
returns-clause-enumerations c = record {
  kinds = refl;
  out_of_range = refl;
  mixed = refl;
  mixed_type = refl;
  shared = refl;
  named_behind = refl;
  unknown = refl;
}
