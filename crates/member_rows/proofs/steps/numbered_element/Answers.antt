-- An index that isn't below 0 is its own magnitude.
use Rattle.std.proofs.Common.{ap, ◌∙◌, arith, unsigned_abs}
use Rattle.std.specs.Int.{w128}
use Rattle.std.specs.Option.{option_and_then}
use Rattle.std.proofs.lemmas.Int.{ints, to_z-of_z}
use Rattle.meaning_typing.specs.OffsetRows as meaning
use Rattle.c_types.specs.Layouts.{told_in}
use Rattle.c_types.specs.Table.{type_at}
use Rattle.expression_rows.specs.Rows.{failure_listed}
use Rattle.member_rows.specs.Steps.{bytes_to_element, reached_seen, walk_told}
use Rattle.member_rows.proofs.OffsetLemmas.{number_led}
use Rattle.member_rows.proofs.steps.numbered_element.Goals as goal

pub returns-clause-step : goal.returns-clause-step
returns-clause-step c =
    let table = c.args.types.now in
    let told = told_in table in
    let failing = failure_listed table c.args.failure in
    let reached = reached_seen table c.args.reached in
    let element = type_at table c.args.element in
    c.led_to.ensures.step
    ∙ ap (λ bytes. walk_told (meaning.led_to c.args.token failing reached element bytes))
    (c.bytes_to_element-bytes.ensures
    ∙ ap (λ index. option_and_then (bytes_to_element told element index) c.args.reached.bytes)
    (c.unsigned_abs.ensures.value ∙ ap unsigned_abs (to_z-of_z w128 c.args.number c.ranges.number)))
    ∙ ap walk_told (number_led told c.args.token failing reached element c.args.number (omega (arith, ints, c.if-number-lt0.false)))
