-- The cells of one tree stand behind their parts, and what is made of them has the paths.
use Rattle.std.proofs.Common.{◌≡◌, ◌+◌, [], ◌∷◌, length, ap, subst, ◌∙◌, arith}
use Rattle.std.proofs.lemmas.List.{length-map}
use Rattle.std.proofs.lemmas.Result.{IfOk-weaker}
use Rattle.control_flow.specs.Seen.{graph_of}
use Rattle.control_cells.specs.Exits.{AreExits}
use Rattle.control_cells.specs.Jumps.{AreJumps, kinds_of}
use Rattle.control_cells.specs.Labels.{AreOwned, rows}
use Rattle.control_cells.specs.Seen.{cell_seen, cells_seen}
use Rattle.control_cells.proofs.FlowLemmas.{returned}
use Rattle.control_cells.proofs.OrderLemmas.{length-firsts, length-numbers, stand_behind}
use Rattle.control_cells.proofs.ShapeLemmas.{walkable}
use Rattle.control_cells.proofs.SizeLemmas.{size-flow}
use Rattle.control_cells.proofs.flow.flow_of.Goals as goal

pub numbers_of-requires-clause-before : goal.numbers_of-requires-clause-before
numbers_of-requires-clause-before c = stand_behind (λ _. []) c.args.cells.now (c.requires.tree (λ _. [])).each

pub firsts_of-requires-clause-before : goal.firsts_of-requires-clause-before
firsts_of-requires-clause-before c = stand_behind (λ _. []) c.args.cells.now (c.requires.tree (λ _. [])).each

pub flow_by-requires-clause-before : goal.flow_by-requires-clause-before
flow_by-requires-clause-before c = stand_behind (λ _. []) c.args.cells.now (c.requires.tree (λ _. [])).each

pub flow_by-requires-clause-some : goal.flow_by-requires-clause-some
flow_by-requires-clause-some c = omega (arith, (c.requires.tree (λ _. [])).some, length-map c.args.cells.now (cell_seen (λ _. [])))

pub exits_of-requires-clause-numbered : goal.exits_of-requires-clause-numbered
exits_of-requires-clause-numbered c =
    omega (
      arith,
      ap length c.as_slice.ensures.value,
      ap length (c.in_ok-numbering.ensures.cells (λ _. [])),
      length-numbers [] 1 (cells_seen (λ _. []) c.args.cells.now),
      length-map c.args.cells.now (cell_seen (λ _. [])),
    )

pub labels_of-requires-clause-numbered : goal.labels_of-requires-clause-numbered
labels_of-requires-clause-numbered c =
    omega (arith, ap length c.as_slice-2.ensures.value, (c.in_ok-exits.ensures (λ _. [])).count, length-map c.args.cells.now (cell_seen (λ _. [])))

pub jumps_of-requires-clause-firsts : goal.jumps_of-requires-clause-firsts
jumps_of-requires-clause-firsts c =
    omega (
      arith,
      ap length c.as_slice-3.ensures.value,
      ap length (c.in_ok-firsts.ensures (λ _. [])),
      length-firsts [] (cells_seen (λ _. []) c.args.cells.now),
      length-map c.args.cells.now (cell_seen (λ _. [])),
    )

pub jumps_of-requires-clause-labels : goal.jumps_of-requires-clause-labels
jumps_of-requires-clause-labels c =
    omega (
      arith,
      ap length c.as_slice-4.ensures.value,
      (c.in_ok-labels.ensures (λ _. [])).length_is,
      length-map c.in_ok-labels.labels.items (λ list. list.items),
      length-map c.args.cells.now (cell_seen (λ _. [])),
    )

pub flow_by-requires-clause-known : goal.flow_by-requires-clause-known
flow_by-requires-clause-known c =
    let seen : length (cells_seen (λ _. []) c.args.cells.now) ≡ length c.args.cells.now = length-map c.args.cells.now (cell_seen (λ _. [])) in
    record {
      numbers = omega (arith, seen, ap length (c.in_ok-numbering.ensures.cells (λ _. [])), length-numbers [] 1 (cells_seen (λ _. []) c.args.cells.now));
      exits = omega (arith, seen, (c.in_ok-exits.ensures (λ _. [])).count);
      labels = omega (arith, seen, (c.in_ok-labels.ensures (λ _. [])).length_is, length-map c.in_ok-labels.labels.items (λ list. list.items));
      jumps = omega (arith, c.in_ok-jumps.ensures.length_is, length-map c.in_ok-jumps.jumps.items (λ list. list.items), length-map c.args.cells.now (λ cell. cell.kind));
    }

pub returns-clause-paths : goal.returns-clause-paths
returns-clause-paths c =
    IfOk-weaker c.flow_by.result _ _
    (λ flow is names apart.
    returned names apart c.args.cells.now (c.requires.tree names)
    (record { numbers = c.in_ok-numbering.numbering.cells; exits = c.in_ok-exits.exits; labels = c.in_ok-labels.labels; jumps = c.in_ok-jumps.jumps })
    c.in_ok-numbering.numbering.closing c.args.brace c.in_ok-firsts.firsts.items (graph_of flow)
    (c.in_ok-numbering.ensures.cells names) (c.in_ok-numbering.ensures.closing names) (c.in_ok-firsts.ensures names)
    (subst (λ numbers. AreExits (cells_seen names c.args.cells.now) numbers c.in_ok-numbering.numbering.closing c.in_ok-exits.exits.items) c.as_slice.ensures.value (c.in_ok-exits.ensures names))
    (subst (λ exits. AreOwned (cells_seen names c.args.cells.now) exits (length c.args.cells.now) (rows c.in_ok-labels.labels.items)) c.as_slice-2.ensures.value (c.in_ok-labels.ensures names))
    (subst (λ firsts. AreJumps (kinds_of c.args.cells.now) firsts (rows c.in_ok-labels.labels.items) (length c.args.cells.now) (rows c.in_ok-jumps.jumps.items)) c.as_slice-3.ensures.value
    (subst (λ labels. AreJumps (kinds_of c.args.cells.now) c.as_slice-3.result.now (rows labels) (length c.args.cells.now) (rows c.in_ok-jumps.jumps.items)) c.as_slice-4.ensures.value c.in_ok-jumps.ensures))
    (is names apart))
    c.flow_by.ensures

pub returns-clause-walkable : goal.returns-clause-walkable
returns-clause-walkable c =
    IfOk-weaker c.flow_by.result _ _
    (λ flow is.
    walkable c.args.cells.now (c.requires.tree (λ name. name.0 ∷ []))
    (record { numbers = c.in_ok-numbering.numbering.cells; exits = c.in_ok-exits.exits; labels = c.in_ok-labels.labels; jumps = c.in_ok-jumps.jumps })
    c.in_ok-numbering.numbering.closing c.args.brace flow c.in_ok-numbering.ensures.cells c.in_ok-numbering.ensures.closing
    (λ names.
    subst (λ numbers. AreExits (cells_seen names c.args.cells.now) numbers c.in_ok-numbering.numbering.closing c.in_ok-exits.exits.items) c.as_slice.ensures.value (c.in_ok-exits.ensures names))
    is)
    c.flow_by.ensures

pub returns-clause-small : goal.returns-clause-small
returns-clause-small c =
    IfOk-weaker c.flow_by.result _ _
    (λ flow is names apart most small.
    size-flow names c.args.cells.now
    (record { numbers = c.in_ok-numbering.numbering.cells; exits = c.in_ok-exits.exits; labels = c.in_ok-labels.labels; jumps = c.in_ok-jumps.jumps })
    c.args.brace (graph_of flow) most (is names apart) small)
    c.flow_by.ensures
