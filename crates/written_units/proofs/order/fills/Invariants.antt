-- What is left of the children fills what is left of the run where all of them fill it.
use Rattle.std.proofs.Common.{◌≡◌}
use Rattle.written_units.specs.Filling.{fills}
use Rattle.written_units.proofs.order.fills.Given as goal

abbrev pub invariant-loop-child : goal.invariant-loop-child
invariant-loop-child l =
    fills l.unit.nodes l.starts l.low l.high l.child-iterator ≡ fills l.unit.nodes l.starts l.start l.end l.children
