-- One more cell, and its owner if it has one.
use Rattle.std.proofs.Common.{◌≡◌, ◌+◌, [], length, replicate, subst, sym, ap, ◌∙◌, arith}
use Rattle.std.proofs.lemmas.List.{length-map}
use Rattle.control_cells.specs.Labels.{AreOwned, rows}
use Rattle.control_cells.specs.Seen.{cell_seen, cells_seen}
use Rattle.control_cells.proofs.LabelLemmas.{none_joins, none_owned, one_joins}
use Rattle.control_cells.proofs.ListLemmas.{empty_rows}
use Rattle.control_cells.proofs.labels.labels_of.Goals as goal
use Rattle.control_cells.proofs.labels.labels_of.Goals.{in-Some+in_ok-push_to-in-Some, in-None}

pub loop-number-init : goal.loop-number-init
loop-number-init c = λ names.
    none_owned (cells_seen names c.args.cells.now) c.args.exits.now (rows c.in_ok-lists.lists.items)
    (empty_rows (length (cells_seen names c.args.cells.now)) (rows c.in_ok-lists.lists.items)
    (c.in_ok-lists.ensures ∙ ap (λ count. replicate count []) (sym (length-map c.args.cells.now (cell_seen names)))))

pub loop-number-preserved : goal.loop-number-preserved
loop-number-preserved c =
    elim c.match-owner_at.branch [
      | in-Some+in_ok-push_to-in-Some w ↦ λ names.
          subst (λ lists. AreOwned (cells_seen names c.args.cells.now) c.args.exits.now (c.loop-number.number + 1) (rows lists.items)) (sym w.lists-is)
          (subst (λ lists. AreOwned (cells_seen names c.args.cells.now) c.args.exits.now (c.loop-number.number + 1) lists) (sym w.in_ok-push_to-in-Some.ensures)
          (one_joins (cells_seen names c.args.cells.now) c.args.exits.now c.loop-number.number (rows c.loop-number.lists.items) (c.loop-number.invariant names) w.in-Some.owner
          (sym (c.owner_at.ensures names) ∙ w.in-Some.is)))
      | in-None w ↦ λ names.
          subst (λ lists. AreOwned (cells_seen names c.args.cells.now) c.args.exits.now (c.loop-number.number + 1) (rows lists.items)) (sym w.lists-is)
          (none_joins (cells_seen names c.args.cells.now) c.args.exits.now c.loop-number.number (rows c.loop-number.lists.items) (c.loop-number.invariant names)
          (sym (c.owner_at.ensures names) ∙ w.in-None.is))
    ]

pub returns : goal.returns
returns c = λ names.
    let all : c.loop-number.number ≡ length c.args.cells.now = omega (arith, c.loop-number-test.false, c.loop-number.auto.number-end) in
    subst (λ count. AreOwned (cells_seen names c.args.cells.now) c.args.exits.now count (rows c.loop-number.lists.items)) all (c.loop-number.invariant names)
