use Rattle.std.proofs.Common.{◌≡◌, ◌+◌, ◌++◌, ℕ, List, length, All}
use Rattle.number_sets.specs.NumberSets.{Extends}
use Rattle.c_macros.specs.Laid.{LaidItems, Lays}
use Rattle.c_macros.specs.Reading.{HasSet}
use Rattle.c_macros.specs.Run.{IsKnownItem}
use Rattle.c_macros.specs.Stops.{KeepsBelow}
use Rattle.c_macros.specs.Waiting.{backwards}
use Rattle.c_macros.specs.declared.item.Item.{Item}
use Rattle.c_macros.proofs.LayLemmas.{Laying}
use Rattle.c_macros.proofs.lay.lay.Given as goal

abbrev pub invariant-loop-part : goal.invariant-loop-part
invariant-loop-part l =
    record {
      grows : Extends l.fn.sets l.sets;
      below : KeepsBelow l.fn.work.items l.work.items;
      rest : All (HasSet l.sets) l.laid.items.items;
      lays : (parts : List LaidItems) → Lays l.fn.laid parts → (below now : List Item) → l.fn.work.items ≡ below ++ backwards now → l.floor ≡ length below → Laying l.sets l.hides parts below now l.laid l.work.items;
      count : length l.work.items + length l.laid.items.items ≡ length l.fn.work.items + length l.fn.laid.items.items;
      known : (names : List (List ℕ)) → All (IsKnownItem names l.fn.sets) l.fn.laid.items.items → All (IsKnownItem names l.fn.sets) l.fn.work.items → All (IsKnownItem names l.sets) l.work.items × All (IsKnownItem names l.sets) l.laid.items.items;
    }

abbrev pub decreases-loop-part : goal.decreases-loop-part
decreases-loop-part l = length l.laid.ends.items
