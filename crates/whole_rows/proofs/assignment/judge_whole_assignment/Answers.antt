-- The place that is stored to is told as one that can't be written, and as an incomplete one.
use Rattle.std.proofs.Common.{◌∙◌, sym}
use Rattle.meaning_rules.specs.Rules.{least_broken}
use Rattle.meaning_typing.specs.Expressions.{assignment_row}
use Rattle.meaning_typing.specs.Wholes.{as_stored, incomplete_at}
use Rattle.expression_rows.specs.Facts.{part_seen, valued_part}
use Rattle.expression_rows.specs.Rows.{told}
use Rattle.member_rows.specs.Aggregates.{aggregates_in}
use Rattle.member_rows.proofs.AggregateLemmas.{told_is}
use Rattle.whole_rows.specs.Rows.{told_and}
use Rattle.whole_rows.specs.Stores.{part_stored}
use Rattle.whole_rows.proofs.RowLemmas.{and_told}
use Rattle.whole_rows.proofs.StoreLemmas.{assignment_stored}
use Rattle.whole_rows.proofs.assignment.judge_whole_assignment.Goals as goal

pub returns-clause-row : goal.returns-clause-row
returns-clause-row c =
    let old = c.args.types.now in
    let new = c.judge_assignment.new.types in
    let token = c.args.token in
    let standing = c.args.standing in
    let left = part_seen old c.args.left in
    let right = valued_part old c.args.right in
    c.and_breaks.ensures.seen new
    ∙ (λ i. told_and (c.in_ok-row.ensures.row i) (c.incomplete_at-incomplete.ensures i))
    ∙ (λ i. told_and (told (assignment_row token standing (c.part_stored-stored.ensures.stored i) right)) (least_broken (incomplete_at (sym (told_is old) i) token left)))
    ∙ (λ i. told_and (told (assignment_row token standing (part_stored (λ number. c.requires.consts number i) left) right))
    (least_broken (incomplete_at (aggregates_in old).told token left)))
    ∙ (λ i. told_and (told (assignment_stored (aggregates_in old) token standing left right i)) (least_broken (incomplete_at (aggregates_in old).told token left)))
    ∙ and_told (assignment_row token standing (as_stored (aggregates_in old) left) right) (incomplete_at (aggregates_in old).told token left)
