use Rattle.std.proofs.Common.{◌≡◌, ◌+◌, length}
use Rattle.c_directives.specs.Lines.{line_length}
use Rattle.c_directives.proofs.lines.line_length.Given as goal

abbrev pub invariant-loop-token : goal.invariant-loop-token
invariant-loop-token l =
    record {
      count : l.count + line_length l.left ≡ line_length l.tokens;
      all : l.count + length l.left ≡ length l.tokens;
    }

abbrev pub decreases-loop-token : goal.decreases-loop-token
decreases-loop-token l = length l.left
