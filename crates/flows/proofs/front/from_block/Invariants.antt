use Rattle.std.proofs.Common.{◌≡◌}
use Rattle.flows.specs.Lines.{from_block}
use Rattle.flows.proofs.front.from_block.Given as goal

abbrev pub invariant-bars : goal.invariant-bars
invariant-bars l = from_block l.left l.rest ≡ from_block l.number l.text

abbrev pub decreases-bars : goal.decreases-bars
decreases-bars l = l.left
