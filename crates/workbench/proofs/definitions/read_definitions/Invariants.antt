use Rattle.std.proofs.Common.{◌<◌, ◌^◌, length}
use Rattle.c_macros.specs.Seen.{KnowsAll}
use Rattle.workbench.proofs.definitions.read_definitions.Given as goal

abbrev pub invariant-lines : goal.invariant-lines
invariant-lines l = record { size : length l.rest < 2 ^ 30; known : KnowsAll l.names l.table }

abbrev pub decreases-lines : goal.decreases-lines
decreases-lines l = length l.rest
