-- What the parts that are left are told yet makes up what all are told.
use Rattle.std.proofs.Common.{◌≡◌, ℕ, List, length, drop}
use Rattle.sparse_model.specs.declared.ids.NameId.{NameId as Name}
use Rattle.control_cells.specs.Exits.{with_handed}
use Rattle.control_cells.specs.Seen.{cell_seen}
use Rattle.control_cells.proofs.exits.hand_down.Given as goal

abbrev pub invariant-loop-place : goal.invariant-loop-place
invariant-loop-place l =
    record {
      told :
          (names : Name → List ℕ) → with_handed l.numbers l.number l.own (cell_seen names l.cell) l.place (drop l.place l.cell.parts.items) l.exits.items
          ≡ with_handed l.numbers l.number l.own (cell_seen names l.cell) 0 l.cell.parts.items l.initial.exits.items;
      count : length l.exits.items ≡ length l.initial.exits.items;
    }
