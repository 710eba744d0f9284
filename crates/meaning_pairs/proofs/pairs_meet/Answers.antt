-- Each table computes.
use Rattle.std.proofs.Common.{refl}
use Rattle.meaning_pairs.proofs.pairs_meet.Goals as goal

pub returns : goal.returns
returns c = record {
  signs = refl;
  calculated = refl;
  steps = refl;
  changed = refl;
  intersections = refl;
  unions = refl;
  beside_pointers = refl;
  arms = refl;
  combined = refl;
  compared = refl;
  negated = refl;
  tested = refl;
  complements = refl;
  last = refl;
}
