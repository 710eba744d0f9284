-- What joins where none of the first ones has, and what is left where some have.
use Rattle.std.proofs.Common.{◌∙◌, arith}
use Rattle.std.proofs.lemmas.Result.{on_ok_weaker}
use Rattle.control_cells.specs.Blocks.{labelled}
use Rattle.control_cells.specs.Seen.{cells_seen}
use Rattle.control_cells.proofs.NextLemmas.{any_picked, none_picked, some_picked}
use Rattle.control_cells.proofs.next.push_picked.Goals as goal

pub returns-then-len-before : goal.returns-then-len-before
returns-then-len-before c = λ names apart.
    some_picked names c.args.next.now c.push_wanted.new.next (labelled (cells_seen names c.args.cells.now) c.args.numbers.now c.args.labels.now) c.args.past c.args.number _ c.in-Some.is
    (c.in_ok-push_wanted.ensures names apart) (omega (arith, c.if-len-before.true, c.len.ensures.value, c.len-before.ensures.value))

pub returns-in-None : goal.returns-in-None
returns-in-None c =
    on_ok_weaker c.push_default.result
    (λ joined names apart.
    any_picked names c.args.next.now c.push_wanted.new.next c.push_default.new.next (labelled (cells_seen names c.args.cells.now) c.args.numbers.now c.args.labels.now) c.args.past c.args.number c.in-None.is
    (c.in_ok-push_wanted.ensures names apart) (joined names apart))
    c.push_default.ensures

pub returns-else-len-before : goal.returns-else-len-before
returns-else-len-before c =
    on_ok_weaker c.push_default-in-Some.result
    (λ joined names apart.
    none_picked names c.args.next.now c.push_wanted.new.next c.push_default-in-Some.new.next (labelled (cells_seen names c.args.cells.now) c.args.numbers.now c.args.labels.now) c.args.past c.args.number _ c.in-Some.is
    (c.in_ok-push_wanted.ensures names apart) (omega (arith, c.if-len-before.false, c.len.ensures.value, c.len-before.ensures.value)) (joined names apart))
    c.push_default-in-Some.ensures
