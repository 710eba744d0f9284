-- Each example computes.
use Rattle.std.proofs.Common.{refl}
use Rattle.meaning_objects.proofs.objects.worked_carriers.Goals as goal

pub returns-clause-contexts : goal.returns-clause-contexts
returns-clause-contexts c = record {
  first = refl;
  none = refl;
  added = refl;
  of_zeros = refl;
  of_typedef = refl;
}

pub returns-clause-noreturn : goal.returns-clause-noreturn
returns-clause-noreturn c = record {
  by_specifier = refl;
  by_attribute = refl;
  without = refl;
  among_specifiers = refl;
  behind_star = refl;
  of_typedef = refl;
}
