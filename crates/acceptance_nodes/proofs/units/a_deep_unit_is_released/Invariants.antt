-- The unit begins with handle 0 all along.
use Rattle.std.proofs.Common.{◌≡◌}
use Rattle.acceptance_nodes.proofs.units.a_deep_unit_is_released.Given as goal

abbrev pub invariant-loop-node : goal.invariant-loop-node
invariant-loop-node g l = l.unit.first ≡ 0
