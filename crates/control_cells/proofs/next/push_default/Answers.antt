-- What joins where no default has.
use Rattle.std.proofs.Common.{◌∙◌, arith}
use Rattle.std.proofs.lemmas.Result.{on_ok_weaker}
use Rattle.meaning_control.specs.Choices.{is_default, places_of}
use Rattle.control_flow.specs.Seen.{targets}
use Rattle.control_cells.specs.Blocks.{labelled}
use Rattle.control_cells.specs.Seen.{cells_seen}
use Rattle.control_cells.proofs.NextLemmas.{after-is, none_else, some_else}
use Rattle.control_cells.proofs.next.push_default.Goals as goal

pub returns-then-len-before : goal.returns-then-len-before
returns-then-len-before c = λ names apart.
    some_else c.args.next.now c.push_wanted.new.next (places_of is_default (labelled (cells_seen names c.args.cells.now) c.args.numbers.now c.args.labels.now)) c.args.past
    (c.in_ok-push_wanted.ensures names apart
    ∙ after-is is_default (targets c.args.next.now) (labelled (cells_seen names c.args.cells.now) c.args.numbers.now c.args.labels.now))
    (omega (arith, c.if-len-before.true, c.len.ensures.value, c.len-before.ensures.value))

pub returns : goal.returns
returns c =
    on_ok_weaker c.push_next.result
    (λ joined names apart.
    none_else c.args.next.now c.push_wanted.new.next c.push_next.new.next (places_of is_default (labelled (cells_seen names c.args.cells.now) c.args.numbers.now c.args.labels.now)) c.args.past
    (c.in_ok-push_wanted.ensures names apart
    ∙ after-is is_default (targets c.args.next.now) (labelled (cells_seen names c.args.cells.now) c.args.numbers.now c.args.labels.now))
    (omega (arith, c.if-len-before.false, c.len.ensures.value, c.len-before.ensures.value)) joined)
    c.push_next.ensures
