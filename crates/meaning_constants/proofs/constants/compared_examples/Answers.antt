-- Each expression computes.
use Rattle.std.proofs.Common.{refl}
use Rattle.meaning_constants.proofs.constants.compared_examples.Goals as goal

pub returns : goal.returns
returns c = record {
  from_0 = refl;
  from_100 = refl;
  from_200 = refl;
  from_300 = refl;
  from_400 = refl;
  from_500 = refl;
  from_600 = refl;
  from_700 = refl;
  from_800 = refl;
  from_900 = refl;
  from_1000 = refl;
  from_1100 = refl;
  from_1200 = refl;
  from_1300 = refl;
  from_1400 = refl;
  from_1500 = refl;
  from_1600 = refl;
  from_1700 = refl;
  from_1800 = refl;
  from_1900 = refl;
}
