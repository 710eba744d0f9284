use Rattle.std.proofs.Common.{◌≡◌, map, take}
use Rattle.c_scope.specs.Seen.{entry_of}
use Rattle.c_scope.specs.Slots.{entries_in}
use Rattle.c_scope.proofs.slot.bindings_of.Given as goal

abbrev pub invariant-loop-slot : goal.invariant-loop-slot
invariant-loop-slot l = map entry_of l.bindings.items ≡ entries_in (take l.slot-index l.slots)
