use Rattle.std.proofs.Common.{◌≡◌, length}
use Rattle.meaning_answer.specs.Requests.{is_on_behind, is_switched_on}
use Rattle.ksparse.specs.Options.{switches_seen}
use Rattle.ksparse.proofs.reading.is_switched_on.Given as goal

abbrev pub invariant-switches : goal.invariant-switches
invariant-switches l = is_on_behind l.on (switches_seen l.left) l.class ≡ is_switched_on (switches_seen l.switches) l.class

abbrev pub decreases-switches : goal.decreases-switches
decreases-switches l = length l.left
