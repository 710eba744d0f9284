use Rattle.std.proofs.Common.{◌≡◌, ◌+◌, ◌++◌, ℕ, List, length, All}
use Rattle.number_sets.specs.NumberSets.{Extends}
use Rattle.c_macros.specs.Reading.{HasSet}
use Rattle.c_macros.specs.Run.{IsKnownItem}
use Rattle.c_macros.specs.Stops.{KeepsBelow}
use Rattle.c_macros.specs.declared.item.Item.{Item}
use Rattle.c_macros.proofs.LayLemmas.{Putting}
use Rattle.c_macros.proofs.lay.put_part.Given as goal

abbrev pub invariant-loop-hides : goal.invariant-loop-hides
invariant-loop-hides l =
    record {
      grows : Extends l.fn.sets l.sets;
      below : KeepsBelow l.fn.work.items l.work.items;
      rest : All (HasSet l.sets) l.items.items;
      put : (before part : List Item) → l.fn.items.items ≡ before ++ part → l.first ≡ length before → Putting l.sets l.hides before part l.fn.work.items l.items.items l.work.items;
      count : length l.work.items + length l.items.items ≡ length l.fn.work.items + length l.fn.items.items;
      known : (names : List (List ℕ)) → All (IsKnownItem names l.fn.sets) l.fn.items.items → All (IsKnownItem names l.fn.sets) l.fn.work.items → All (IsKnownItem names l.sets) l.work.items × All (IsKnownItem names l.sets) l.items.items;
    }

abbrev pub decreases-loop-hides : goal.decreases-loop-hides
decreases-loop-hides l = length l.items.items
