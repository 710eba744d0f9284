-- The element's size is asked of what the row knows.
use Rattle.std.proofs.Common.{◌∙◌}
use Rattle.meaning_rules.specs.Rules.{least_broken}
use Rattle.meaning_typing.specs.Expressions.{subscript_row}
use Rattle.meaning_typing.specs.Wholes.{element_broken}
use Rattle.c_types.specs.Layouts.{told_in}
use Rattle.expression_rows.specs.Facts.{valued_part}
use Rattle.expression_rows.specs.Rows.{told}
use Rattle.whole_rows.specs.Rows.{told_and}
use Rattle.whole_rows.proofs.RowLemmas.{and_told}
use Rattle.whole_rows.proofs.subscript.judge_whole_subscript.Goals as goal

pub returns-clause-row : goal.returns-clause-row
returns-clause-row c =
    let table = c.args.types.now in
    let at = c.args.at in
    let row = subscript_row at.token at.first at.second (valued_part table c.args.left) (valued_part table c.args.right) in
    c.and_breaks.ensures.seen table
    ∙ (λ i. told_and (c.judge_subscript-row.ensures.row i) (c.element_broken-broken.ensures i))
    ∙ (λ i. told_and (told row) (least_broken (element_broken (told_in table) at.token (c.judge_subscript-row.ensures.row i).fact)))
    ∙ and_told row (element_broken (told_in table) at.token row.fact)
