-- By the answer over its paths.
use Rattle.std.proofs.Common.{rules, FitsSigned, ◌∙◌}
use Rattle.std.specs.Int.{w64}
use Rattle.std.proofs.lemmas.Int.{to_z-of_z}
use Rattle.expression_rows.specs.Rows.{failure_listed}
use Rattle.node_facts.specs.Facts.{name_seen}
use Rattle.control_flow.specs.Seen.{answer_of}
use Rattle.linear_code.specs.Known.{judged_unit}
use Rattle.judged_control.specs.Judged.{known_of_nodes}
use Rattle.context_judge.proofs.FunctionLemmas.{of-function}
use Rattle.context_judge.proofs.functions.failure_of.Goals as goal

pub returns-clause-seen : goal.returns-clause-seen
returns-clause-seen c = λ table.
    let leaves = c.note_at-note.result.leaves in
    let fit : FitsSigned w64 leaves = search rules in
    of-function (judged_unit c.args.unit.now (known_of_nodes c.args.facts.now)) c.args.function c.child_at-declarator.result c.note_at-note.result
    (name_seen c.name_at.result) (answer_of c.in_ok-answer.answer) (failure_listed table c.failure_told.result) c.child_at-declarator.ensures
    c.note_at-note.ensures c.name_at.ensures c.in_ok-answer.ensures (λ count is. c.failure_told.ensures.seen table count (to_z-of_z w64 leaves fit ∙ is))
