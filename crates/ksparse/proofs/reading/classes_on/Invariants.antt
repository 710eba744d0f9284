use Rattle.std.proofs.Common.{◌≡◌, ◌++◌, length}
use Rattle.std.specs.List.{filter}
use Rattle.meaning_answer.specs.Requests.{classes_on, is_switched_on}
use Rattle.ksparse.specs.Options.{switches_seen}
use Rattle.ksparse.proofs.reading.classes_on.Given as goal

abbrev pub invariant-classes : goal.invariant-classes
invariant-classes l = l.classes.items ++ filter (is_switched_on (switches_seen l.switches)) l.left ≡ classes_on (switches_seen l.switches)

abbrev pub decreases-classes : goal.decreases-classes
decreases-classes l = length l.left
