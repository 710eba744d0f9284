-- Each `goto` of the name from a bound on goes to the label; the next one is the last before the bound.
use Rattle.std.proofs.Common.{ℕ, ◌+◌, ◌≤◌, Option, Some, None}
use Rattle.control_cells.specs.Jumps.{IsLastOf, HaveJoinedFrom, kinds_of}
use Rattle.control_cells.specs.Labels.{rows}
use Rattle.control_cells.proofs.jumps.jump_to.Given as goal

abbrev pub invariant-loop-next : goal.invariant-loop-next
invariant-loop-next l =
    record {
      bound : ℕ;
      within : bound ≤ l.fn.count;
      next : IsLastOf (kinds_of l.cells) l.fn.name bound l.next;
      joined : HaveJoinedFrom (kinds_of l.cells) l.fn.name l.fn.first bound l.fn.count l.fn.label (rows l.initial.jumps.items) (rows l.jumps.items);
    }

-- the place behind it
abbrev above : Option ℕ → ℕ
above None = 0
above (Some number) = number + 1

abbrev pub decreases-loop-next : goal.decreases-loop-next
decreases-loop-next l = above l.next
