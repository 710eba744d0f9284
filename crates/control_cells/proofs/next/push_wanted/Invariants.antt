-- What has joined, and what the labels that are left give, are what all give.
use Rattle.std.proofs.Common.{◌≡◌, ℕ, List, drop}
use Rattle.sparse_model.specs.declared.ids.NameId.{NameId as Name}
use Rattle.control_flow.specs.Seen.{targets}
use Rattle.control_cells.specs.Blocks.{is_wanted, labelled, places_after}
use Rattle.control_cells.specs.Flows.{KeepsApart}
use Rattle.control_cells.specs.Seen.{cells_seen}
use Rattle.control_cells.proofs.next.push_wanted.Given as goal

abbrev pub invariant-loop-label : goal.invariant-loop-label
invariant-loop-label l =
    (names : Name → List ℕ) → KeepsApart names
    → places_after (is_wanted names l.wanted) (targets l.next) (labelled (cells_seen names l.cells) l.numbers (drop l.label-index l.labels))
    ≡ places_after (is_wanted names l.wanted) (targets l.initial.next) (labelled (cells_seen names l.cells) l.numbers l.labels)
