-- What joins is where a jump goes, and a switch.
use Rattle.std.proofs.Common.{◌≡◌, ap, ◌∙◌, arith}
use Rattle.std.proofs.lemmas.List.{get_or_read}
use Rattle.std.proofs.lemmas.Result.{on_ok_weaker}
use Rattle.control_cells.specs.Exits.{exits_to}
use Rattle.control_cells.specs.Labels.{row_at, rows}
use Rattle.control_cells.specs.Seen.{cell_seen, cells_seen}
use Rattle.control_cells.specs.declared.exits.Exits.{Exits}
use Rattle.control_cells.proofs.GoneLemmas.{jump_gone, pick_gone}
use Rattle.control_cells.proofs.blocks.push_goings.Goals as goal

pub returns-in-Jumps : goal.returns-in-Jumps
returns-in-Jumps c =
    on_ok_weaker c.push_wanted.result
    (λ joined names apart.
    jump_gone names (cells_seen names c.args.cells.now) c.args.tables.now c.args.number (cell_seen names c.args.cell.now) c.args.next.now c.push_wanted.new.next c.args.goings
    c.as_slice-numbers.result.now c.row-labels.result.now c.as_slice-numbers.ensures.value c.in-Jumps.name c.in-Jumps.is
    (c.row-labels.ensures ∙ ap (λ lists. row_at (rows lists) c.args.number) c.as_slice-in-Jumps.ensures.value) (joined names apart))
    c.push_wanted.ensures

pub returns-in-Picks : goal.returns-in-Picks
returns-in-Picks c =
    on_ok_weaker c.push_picked.result
    (λ joined names apart.
    pick_gone names (cells_seen names c.args.cells.now) c.args.tables.now c.args.number (cell_seen names c.args.cell.now) c.args.next.now c.push_picked.new.next c.args.goings
    c.as_slice-numbers.result.now c.row-labels-in-Picks.result.now c.as_slice-numbers.ensures.value c.number_of.result c.index-exits.result.now.hit c.in-Picks.is
    (c.row-labels-in-Picks.ensures ∙ ap (λ lists. row_at (rows lists) c.args.number) c.as_slice-in-Picks.ensures.value)
    (c.number_of.ensures names c.args.cell.now.token)
    (ap (λ (e : Exits). e.hit)
    (get_or_read c.args.tables.now.exits.items c.args.number c.index-exits.result.now (omega (arith, c.requires.within, c.requires.known.exits)) c.index-exits.ensures (exits_to 0)))
    (joined names apart))
    c.push_picked.ensures
