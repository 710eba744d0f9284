-- One more cell, and a `goto` if it is one.
use Rattle.std.proofs.Common.{◌≡◌, ◌∷◌, ◌++◌, [], refl, sym, ap, ◌∙◌}
use Rattle.std.proofs.lemmas.Result.{on_ok_weaker}
use Rattle.control_cells.specs.Jumps.{kind_at, kinds_of}
use Rattle.control_cells.proofs.JumpLemmas.{another_cell, another_goto, named_goto, no_goto}
use Rattle.control_cells.proofs.jumps.add_cell.Goals as goal

pub returns-in_ok-push-in-Some : goal.returns-in_ok-push-in-Some
returns-in_ok-push-in-Some c =
    on_ok_weaker c.keep_last.result
    (λ joined.
    another_goto (kinds_of c.args.cells.now) c.args.number c.args.gotos.now (record { last = c.keep_last.new.last; earlier = c.push.new.self }) c.requires.before c.in-Some.name
    (named_goto (kind_at (kinds_of c.args.cells.now) c.args.number) c.in-Some.name (sym c.goto_at.ensures ∙ c.in-Some.is))
    (c.in_ok-push-in-Some.ensures.items ∙ ap (λ before. c.args.gotos.now.earlier.items ++ before ∷ []) (c.copied-before.ensures ∙ c.get.ensures.value))
    joined)
    c.keep_last.ensures

pub returns-in_ok-push-in-None : goal.returns-in_ok-push-in-None
returns-in_ok-push-in-None c =
    another_cell (kinds_of c.args.cells.now) c.args.number c.args.gotos.now (record { last = c.args.gotos.now.last; earlier = c.push-in-None.new.self }) c.requires.before
    (no_goto (kind_at (kinds_of c.args.cells.now) c.args.number) (sym c.goto_at.ensures ∙ c.in-None.is))
    c.in_ok-push-in-None.ensures.items (λ name. refl)
