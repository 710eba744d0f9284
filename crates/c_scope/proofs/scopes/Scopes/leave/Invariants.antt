-- The scope is still open, and what it leaves is what it would have left. There is a turn for each of its entries.
use Rattle.std.proofs.Common.{◌≡◌, true, length, map, reverse}
use Rattle.indexmap.specs.IndexMap.{get}
use Rattle.meaning_scopes.specs.Scopes.{innermost, is_open, without_scope}
use Rattle.c_scope.specs.Slots.{IsIndex, item_of, same_key}
use Rattle.c_scope.proofs.scopes.Scopes.leave.Given as goal

abbrev pub invariant-loop-slot : goal.invariant-loop-slot
invariant-loop-slot l =
    record {
      index : IsIndex (get same_key l.self-inside.newest) (reverse l.self-inside.slots.items) l.self-inside.opened;
      open_ : is_open (map item_of (reverse l.self-inside.slots.items)) ≡ true;
      outer : without_scope (map item_of (reverse l.self-inside.slots.items)) ≡ without_scope l.fn.self;
    }

abbrev pub decreases-loop-slot : goal.decreases-loop-slot
decreases-loop-slot l = length (innermost (map item_of (reverse l.self-inside.slots.items)))
