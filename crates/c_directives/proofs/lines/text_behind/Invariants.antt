use Rattle.std.proofs.Common.{◌≡◌, ◌+◌, length}
use Rattle.c_directives.specs.Lines.{text_behind}
use Rattle.c_directives.proofs.lines.text_behind.Given as goal

abbrev pub invariant-loop-token : goal.invariant-loop-token
invariant-loop-token l =
    record {
      count : l.count + text_behind l.left ≡ text_behind l.tokens;
      all : l.count + length l.left ≡ length l.tokens;
    }

abbrev pub decreases-loop-token : goal.decreases-loop-token
decreases-loop-token l = length l.left
