use Rattle.std.proofs.Common.{◌<◌, ◌^◌, length}
use Rattle.workbench.proofs.attributes.attribute_lines.Given as goal

abbrev pub invariant-lines : goal.invariant-lines
invariant-lines l = length l.rest < 2 ^ 30

abbrev pub decreases-lines : goal.decreases-lines
decreases-lines l = length l.rest
