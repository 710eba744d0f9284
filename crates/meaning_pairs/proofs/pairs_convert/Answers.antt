-- Each table computes.
use Rattle.std.proofs.Common.{refl}
use Rattle.meaning_pairs.proofs.pairs_convert.Goals as goal

pub returns : goal.returns
returns c = record { count = refl; values = refl; zeros = refl; nulls = refl; mixed = refl; others = refl; accesses = refl }
