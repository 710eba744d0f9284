use Rattle.std.proofs.Common.{◌≡◌, ◌+◌, ◌≤◌, length}
use Rattle.c_attrs.specs.Closing.{length_to_closing}
use Rattle.c_attrs.proofs.piece.length_to_closing.Given as goal

-- the count so far and that to come are all
abbrev pub invariant-tokens : goal.invariant-tokens
invariant-tokens l =
    record {
      same : l.count + length_to_closing l.depth l.rest ≡ length_to_closing 0 l.toks;
      depth : l.depth ≤ l.count;
      size : l.count + length l.rest ≡ length l.toks;
    }

abbrev pub decreases-tokens : goal.decreases-tokens
decreases-tokens l = length l.rest
