-- Each example computes.
use Rattle.std.proofs.Common.{refl}
use Rattle.meaning_rules.proofs.rules.worked_examples.Goals as goal

pub returns-clause-statements : goal.returns-clause-statements
returns-clause-statements c = record {
  mixed = refl;
  none_broken = refl;
  elements = refl;
  no_place = refl;
  too_many = refl;
  in_argument = refl;
  around = refl;
  earlier = refl;
}

pub returns-clause-refusals : goal.returns-clause-refusals
returns-clause-refusals c = record {
  together = refl;
  later = refl;
  alone = refl;
  neither = refl;
}

pub returns-clause-declarations : goal.returns-clause-declarations
returns-clause-declarations c = record {
  types = refl;
  lengths = refl;
  same = refl;
  other = refl;
  sizes = refl;
}
