-- The pointer's target may have no size, and the integer may be restricted.
use Rattle.std.proofs.Common.{◌≡◌, ap, ◌∙◌}
use Rattle.meaning_typing.specs.Facts.{type_of_value}
use Rattle.meaning_typing.specs.Operators.{answer_of, operands_failures, target_broken}
use Rattle.c_types.specs.Layouts.{told_in}
use Rattle.expression_rows.specs.Facts.{valued_seen}
use Rattle.expression_rows.specs.Outcomes.{moved_given, outcome_seen}
use Rattle.expression_rows.specs.Rows.{failures_seen}
use Rattle.expression_rows.proofs.OutcomeLemmas.{gives_told, only_told}
use Rattle.expression_rows.proofs.binary.moved.Goals as goal

pub returns-clause-row : goal.returns-clause-row
returns-clause-row c =
    let table = c.args.types.now in
    let left = valued_seen table c.args.left in
    let right = valued_seen table c.args.right in
    let pointer = valued_seen table c.args.pointer in
    let failing = operands_failures c.args.token (type_of_value left) (type_of_value right) (answer_of c.args.op left right).rule in
    let fails : failures_seen table c.only.result ≡ failing =
    ap (failures_seen table) c.only.ensures
    ∙ only_told table c.operands_failure-failure.result failing
    (c.operands_failure-failure.ensures.failure ∙ ap (operands_failures c.args.token (type_of_value left) (type_of_value right)) c.answer_of-rule.ensures.rule) in
    ap (outcome_seen table) c.gives.ensures
    ∙ gives_told table c.moved_pointer.result c.target_broken.result c.only.result (moved_given pointer (valued_seen table c.args.count))
    (target_broken (told_in table) c.args.token (type_of_value pointer)) failing c.moved_pointer.ensures.given c.target_broken.ensures fails
