use Rattle.std.proofs.Common.{◌≡◌, ◌≤◌, length}
use Rattle.flows.specs.Reading.{behind_spaces}
use Rattle.flows.proofs.number.behind_spaces.Given as goal

abbrev pub invariant-spaces : goal.invariant-spaces
invariant-spaces l = record { text : behind_spaces l.rest ≡ behind_spaces l.text; shorter : length l.rest ≤ length l.text }

abbrev pub decreases-spaces : goal.decreases-spaces
decreases-spaces l = length l.rest
