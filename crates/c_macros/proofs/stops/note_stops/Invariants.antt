use Rattle.std.proofs.Common.{◌≡◌, ◌≤◌, length, take}
use Rattle.c_macros.specs.Stops.{AreClosings, behind, stops_from}
use Rattle.c_macros.specs.Waiting.{backwards}
use Rattle.c_macros.proofs.ClosingLemmas.{AreOpen, above}
use Rattle.c_macros.proofs.stops.note_stops.Given as goal

abbrev pub invariant-walk : goal.invariant-walk
invariant-walk l =
    record {
      found : l.floor ≤ length l.work → behind l.stops.items (stops_from l.floor (length l.openings.items) l.left (above l.floor (take l.top l.work))) ≡ behind l.fn.stops.items (stops_from l.floor 0 l.cuts (above l.floor l.work));
      within : l.top ≤ length l.work;
      closings : AreClosings l.work l.closings.items;
      openings : AreOpen l.work l.top 0 (backwards l.openings.items);
    }

abbrev pub decreases-walk : goal.decreases-walk
decreases-walk l = l.top
