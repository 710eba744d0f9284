-- The result's size is asked of the callee.
use Rattle.std.proofs.Common.{◌∙◌, ap, map, sym}
use Rattle.std.proofs.lemmas.List.{length-map}
use Rattle.meaning_rules.specs.Rules.{least_broken}
use Rattle.meaning_typing.specs.Expressions.{call_row}
use Rattle.c_types.specs.Layouts.{told_in}
use Rattle.expression_rows.specs.Arguments.{argument_seen, without_failures}
use Rattle.expression_rows.specs.Facts.{valued_part}
use Rattle.expression_rows.specs.Rows.{told}
use Rattle.whole_rows.specs.Rows.{taken_broken, told_and}
use Rattle.whole_rows.proofs.CallLemmas.{taken_told}
use Rattle.whole_rows.proofs.call.judge_whole_call.Goals as goal

pub returns-clause-row : goal.returns-clause-row
returns-clause-row c =
    let old = c.args.types.now in
    let new = c.judge_call.new.types in
    let token = c.args.token in
    let callee = valued_part old c.args.callee in
    let arguments = map (argument_seen old) c.args.arguments.now in
    c.and_breaks.ensures.seen new
    ∙ (λ i. told_and (c.in_ok-row.ensures.row i) (c.taken_broken-broken.ensures i))
    ∙ ap (λ count. told_and (told (without_failures (call_row token c.args.standing callee arguments))) (least_broken (taken_broken (told_in old) token count callee)))
    (sym (length-map c.args.arguments.now (argument_seen old)))
    ∙ taken_told (told_in old) token c.args.standing arguments callee
