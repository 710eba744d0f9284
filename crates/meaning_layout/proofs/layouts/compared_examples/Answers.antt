-- Each layout computes.
use Rattle.std.proofs.Common.{refl}
use Rattle.meaning_layout.proofs.layouts.compared_examples.Goals as goal

pub returns : goal.returns
returns c = record {
  from_0 = refl;
  from_100 = refl;
  from_200 = refl;
  from_300 = refl;
  from_400 = refl;
  from_500 = refl;
  from_600 = refl;
  from_700 = refl;
  from_800 = refl;
  from_900 = refl;
}
