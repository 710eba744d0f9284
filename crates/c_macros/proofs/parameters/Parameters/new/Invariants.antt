use Rattle.std.proofs.Common.{◌≡◌, ◌++◌, drop}
use Rattle.c_macros.proofs.parameters.Parameters.new.Given as goal

-- the names so far and those to come are all
abbrev pub invariant-loop-name : goal.invariant-loop-name
invariant-loop-name l = l.set.keys ++ drop l.name-index l.names ≡ l.fn.names
