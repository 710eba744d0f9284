-- Each example computes.
use Rattle.std.proofs.Common.{refl}
use Rattle.meaning_typing.proofs.typing.worked_operations.Goals as goal

pub returns : goal.returns
returns c = record {
  changed = refl;
  stepped = refl;
  stepped_before = refl;
  measured = refl;
  measured_sum = refl;
  chosen_one = refl;
  loaded = refl;
  both_once = refl;
  inside = refl;
  value_of_body = refl;
  designated = refl;
  declared_so = refl;
  last = refl;
  given = refl;
  cast_to = refl;
  size_given = refl;
  sum = refl;
  negative = refl;
  arm = refl;
  bytes = refl;
  decided = refl;
  no_sum = refl;
  no_comma = refl;
  no_place = refl;
}
