use Rattle.meaning_types.specs.Types.{IntegerTree}
use Rattle.meaning_typing.specs.Expressions.{literal_row}
use Rattle.meaning_typing.specs.Specifiers.{plain_type}
use Rattle.expr_judge.proofs.TakenLemmas.{row_taken}
use Rattle.whole_judge.proofs.primary.literal.Goals as goal

pub returns : goal.returns
returns c =
    row_taken c.args.types.now c.judge_literal.new.types c.in_ok-row.ensures.keeps c.args.found.now c.take_row.new.found c.in_ok-row.row
    (literal_row (plain_type (IntegerTree c.args.kind))) c.in_ok-row.ensures.known c.take_row.result c.take_row.ensures.row c.take_row.ensures.failures
    c.in_ok-row.ensures.row
