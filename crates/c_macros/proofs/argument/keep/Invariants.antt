use Rattle.std.proofs.Common.{◌≡◌, ◌++◌, List, ℕ, All, length}
use Rattle.number_sets.specs.NumberSets.{Table}
use Rattle.c_macros.specs.Run.{IsKnownItem}
use Rattle.c_macros.specs.Waiting.{backwards}
use Rattle.c_macros.specs.declared.item.Item.{Item}
use Rattle.c_macros.proofs.ArgumentLemmas.{Keeping}
use Rattle.c_macros.proofs.argument.keep.Given as goal

abbrev pub invariant-loop-rest : goal.invariant-loop-rest
invariant-loop-rest l =
    record {
      kept : (below now : List Item) → l.work.items ≡ below ++ backwards now → l.floor ≡ length below → Keeping below now l.rest l.fn.raw.items l.raw.items;
      rest_known : (names : List (List ℕ)) (table : Table) → All (IsKnownItem names table) l.work.items → All (IsKnownItem names table) l.rest;
      known : (names : List (List ℕ)) (table : Table) → All (IsKnownItem names table) l.work.items → All (IsKnownItem names table) l.fn.raw.items → All (IsKnownItem names table) l.raw.items;
    }

abbrev pub decreases-loop-rest : goal.decreases-loop-rest
decreases-loop-rest l = length l.rest
