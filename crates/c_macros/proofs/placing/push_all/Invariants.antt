use Rattle.std.proofs.Common.{◌≡◌, ◌++◌, length}
use Rattle.c_macros.specs.Chains.{items_at}
use Rattle.c_macros.proofs.placing.push_all.Given as goal

-- what is put so far and what is left are all
abbrev pub invariant-loop-item : goal.invariant-loop-item
invariant-loop-item l = l.items.items ++ items_at l.place l.rest ≡ l.fn.items.items ++ items_at l.place l.argument

abbrev pub decreases-loop-item : goal.decreases-loop-item
decreases-loop-item l = length l.rest
