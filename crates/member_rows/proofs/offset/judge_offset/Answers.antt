-- What the steps have broken, and that a bit-field has no address.
use Rattle.std.proofs.Common.{◌∙◌, ap, option_map}
use Rattle.std.proofs.lemmas.Result.{IfOk-weaker}
use Rattle.meaning_rules.specs.Rules.{lesser}
use Rattle.expression_rows.specs.Rows.{broken_seen}
use Rattle.member_rows.proofs.WalkLemmas.{offset_told}
use Rattle.member_rows.proofs.offset.judge_offset.Goals as goal

pub returns-clause-row : goal.returns-clause-row
returns-clause-row c =
    let table = c.args.types.now in
    IfOk-weaker c.offset_with.result _ _
    (λ row same walk walked. same
    ∙ offset_told table c.args.token c.args.broken c.lesser-least.result c.args.reached c.is_led.result
    (c.lesser-least.ensures ∙ ap (lesser (option_map broken_seen c.args.broken)) (c.field_broken.ensures table)) (c.is_led.ensures table) walk walked)
    c.offset_with.ensures.row
