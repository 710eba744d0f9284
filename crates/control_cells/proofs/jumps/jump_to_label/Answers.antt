-- A label joins by its name, and another cell doesn't.
use Rattle.std.proofs.Common.{sym, ◌∙◌}
use Rattle.std.proofs.lemmas.Result.{on_ok_weaker}
use Rattle.control_cells.specs.Jumps.{kind_at, kinds_of}
use Rattle.control_cells.specs.Labels.{rows}
use Rattle.control_cells.proofs.JumpLemmas.{label_joined, named_label, no_label, no_label_joined}
use Rattle.control_cells.proofs.jumps.jump_to_label.Goals as goal

pub returns-in-Some : goal.returns-in-Some
returns-in-Some c =
    on_ok_weaker c.jump_to.result
    (λ joined labels before have.
    label_joined (kinds_of c.args.cells.now) c.args.first c.args.count labels c.args.label before (rows c.args.jumps.now.items) have c.in-Some.name (rows c.jump_to.new.jumps.items)
    (named_label (kind_at (kinds_of c.args.cells.now) c.args.label) c.in-Some.name (sym c.label_at.ensures ∙ c.in-Some.is)) joined)
    c.jump_to.ensures

pub returns-in-None : goal.returns-in-None
returns-in-None c = λ labels before have.
    no_label_joined (kinds_of c.args.cells.now) c.args.first c.args.count labels c.args.label before (rows c.args.jumps.now.items) have
    (no_label (kind_at (kinds_of c.args.cells.now) c.args.label) (sym c.label_at.ensures ∙ c.in-None.is))
