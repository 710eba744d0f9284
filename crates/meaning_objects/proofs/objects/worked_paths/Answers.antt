-- Each example computes.
use Rattle.std.proofs.Common.{refl}
use Rattle.meaning_objects.proofs.objects.worked_paths.Goals as goal

pub returns : goal.returns
returns c = record {
  own = refl;
  through_one = refl;
  through_two = refl;
  behind = refl;
  missing = refl;
  field = refl;
  behind_unnamed = refl;
  through_behind = refl;
}
