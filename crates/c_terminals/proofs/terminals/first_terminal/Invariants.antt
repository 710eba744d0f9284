-- What was read over are no terminals.
use Rattle.std.proofs.Common.{◌≡◌, length}
use Rattle.c_terminals.specs.Left.{AreKnown, terminals_at}
use Rattle.c_terminals.proofs.terminals.first_terminal.Given as goal

abbrev pub invariant-tokens : goal.invariant-tokens
invariant-tokens l =
    record {
      same : terminals_at l.names l.from l.tokens ≡ terminals_at l.names l.index l.rest;
      known : AreKnown l.names l.rest;
    }

abbrev pub decreases-tokens : goal.decreases-tokens
decreases-tokens l = length l.rest
