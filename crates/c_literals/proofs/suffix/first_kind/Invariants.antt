use Rattle.std.proofs.Common.{◌≡◌, length}
use Rattle.meaning_literals.specs.Kinds.{first_that_holds, kinds_of}
use Rattle.c_literals.specs.Seen.{base_seen, suffix_seen}
use Rattle.c_literals.proofs.suffix.first_kind.Given as goal

abbrev pub invariant-kinds : goal.invariant-kinds
invariant-kinds l = first_that_holds l.value l.kinds ≡ first_that_holds l.value (kinds_of (base_seen l.fn.base) (suffix_seen l.fn.suffix))

abbrev pub decreases-kinds : goal.decreases-kinds
decreases-kinds l = length l.kinds
