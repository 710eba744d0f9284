-- Both operands are known over the table that the type of the value joined.
use Rattle.std.proofs.Common.{◌∙◌}
use Rattle.expression_rows.specs.Expected.{expected_as}
use Rattle.expression_rows.specs.Rows.{told}
use Rattle.expression_rows.proofs.GrowthLemmas.{part_later}
use Rattle.expression_rows.proofs.expect.judge_expect.Goals as goal

pub returns-clause-row : goal.returns-clause-row
returns-clause-row c =
    let old = c.args.types.now in
    let new = c.make.new.types in
    let join = c.in_ok-long.ensures.keeps in
    let first = c.args.first in
    let second = c.args.second in
    c.expected.ensures.row
    ∙ (λ i. told
    (expected_as first.token second.token (part_later old new join first.part c.requires.first i)
    (part_later old new join second.part c.requires.second i) (c.in_ok-long.ensures.made i)))
