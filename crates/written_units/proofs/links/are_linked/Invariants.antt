-- Each name so far is linked.
use Rattle.written_units.proofs.LinkingLemmas.{AreLinkedBelow}
use Rattle.written_units.proofs.links.are_linked.Given as goal

abbrev pub invariant-loop-handle : goal.invariant-loop-handle
invariant-loop-handle l = AreLinkedBelow l.unit.nodes l.handle
