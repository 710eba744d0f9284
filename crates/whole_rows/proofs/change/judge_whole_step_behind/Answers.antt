-- Of an incomplete place that is told alone; another one is told as one that can be written or not.
use Rattle.std.proofs.Common.{◌≡◌, IfOk, ap, sym, subst, ◌∙◌}
use Rattle.meaning_rules.specs.Rules.{least_broken}
use Rattle.meaning_typing.specs.Changes.{step_behind_row}
use Rattle.meaning_typing.specs.Wholes.{as_stored}
use Rattle.expression_rows.specs.Facts.{valued_part}
use Rattle.expression_rows.specs.Rows.{Told, row_seen, told}
use Rattle.member_rows.specs.Aggregates.{aggregates_in}
use Rattle.member_rows.proofs.AggregateLemmas.{told_is}
use Rattle.whole_rows.specs.Rows.{changed_broken, told_unless}
use Rattle.whole_rows.specs.Stores.{part_stored}
use Rattle.whole_rows.proofs.RowLemmas.{changed_told}
use Rattle.whole_rows.proofs.StoreLemmas.{step_behind_stored}
use Rattle.whole_rows.proofs.change.judge_whole_step_behind.Goals as goal

pub returns-in-Some-clause-row : goal.returns-in-Some-clause-row
returns-in-Some-clause-row c =
    let old = c.args.types.now in
    let aggregates = aggregates_in old in
    let token = c.args.token in
    let standing = c.args.standing in
    let place = valued_part old c.args.operand in
    let stands = step_behind_row aggregates.told c.args.op token standing (as_stored aggregates place) in
    ap (row_seen old) c.told_alone.ensures
    ∙ (λ i. told_unless (c.in-Some.ensures i) (told stands))
    ∙ (λ i. told_unless (least_broken (changed_broken (sym (told_is old) i) token standing place)) (told stands))
    ∙ changed_told aggregates.told token standing stands place

pub returns-in-None-clause-row : goal.returns-in-None-clause-row
returns-in-None-clause-row c =
    let old = c.args.types.now in
    let aggregates = aggregates_in old in
    let token = c.args.token in
    let standing = c.args.standing in
    let place = valued_part old c.args.operand in
    let stands = step_behind_row aggregates.told c.args.op token standing (as_stored aggregates place) in
    subst (λ (meant : Told). IfOk c.judge_step_behind.result (λ row. row_seen c.judge_step_behind.new.types row ≡ meant))
    ((λ i. told (step_behind_row (sym (told_is old) i) c.args.op token standing (c.valued_stored-stored.ensures.stored i)))
    ∙ (λ i. told (step_behind_row aggregates.told c.args.op token standing (part_stored (λ number. c.requires.consts number i) place)))
    ∙ ap told (step_behind_stored aggregates c.args.op token standing place)
    ∙ (λ i. told_unless (c.in-None.ensures i) (told stands))
    ∙ (λ i. told_unless (least_broken (changed_broken (sym (told_is old) i) token standing place)) (told stands))
    ∙ changed_told aggregates.told token standing stands place)
    c.judge_step_behind.ensures.row
