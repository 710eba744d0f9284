-- The cells from the next one on have told their parts where they lead.
use Rattle.std.proofs.Common.{◌≡◌, ℕ, List, length}
use Rattle.sparse_model.specs.declared.ids.NameId.{NameId as Name}
use Rattle.control_cells.specs.Seen.{cells_seen}
use Rattle.control_cells.proofs.PassLemmas.{HaveTold}
use Rattle.control_cells.proofs.exits.exits_of.Given as goal

abbrev pub invariant-loop-number : goal.invariant-loop-number
invariant-loop-number l =
    record {
      told : (names : Name → List ℕ) → HaveTold (cells_seen names l.cells) l.numbers l.closing l.number l.exits.items;
      count : length l.exits.items ≡ length l.cells;
    }
