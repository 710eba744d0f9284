use Rattle.std.proofs.Common.{◌≡◌, ◌++◌, [], length}
use Rattle.c_directives.proofs.BodyLemmas.{are_new}
use Rattle.c_directives.proofs.bodies.parameter_set.Given as goal

-- the set has the names so far, which are different
abbrev pub invariant-loop-name : goal.invariant-loop-name
invariant-loop-name l =
    record {
      keys : l.set.keys ++ l.left ≡ l.params;
      new : are_new l.set.keys l.left ≡ are_new [] l.params;
    }

abbrev pub decreases-loop-name : goal.decreases-loop-name
decreases-loop-name l = length l.left
