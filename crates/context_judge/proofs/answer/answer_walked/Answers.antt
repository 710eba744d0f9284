-- The paths of the flow are those of the function.
use Rattle.std.proofs.lemmas.Result.{IfOk-weaker}
use Rattle.meaning_paths.specs.Graphs.{IsPathOf}
use Rattle.meaning_paths.proofs.RuleLemmas.{equal_answers}
use Rattle.meaning_control.specs.Functions.{IsPathOfFunction}
use Rattle.control_flow.specs.Seen.{answer_of, graph_of, the_key}
use Rattle.linear_code.specs.Known.{judged_unit}
use Rattle.context_judge.proofs.answer.answer_walked.Goals as goal

pub returns-then-is_small : goal.returns-then-is_small
returns-then-is_small g c =
    let known = g.J.ControlFacts.known c.args.facts.now in
    let flow = c.in_ok-flow.flow in
    IfOk-weaker c.walk.result _ _
    (λ answer is.
    equal_answers (IsPathOf (graph_of flow)) (IsPathOfFunction (judged_unit c.args.unit.now known) c.args.function)
    (λ path. ((c.in_ok-flow.ensures.paths path).1, (c.in_ok-flow.ensures.paths path).0)) the_key c.args.note.enters c.args.note.leaves (answer_of answer) is)
    c.walk.ensures
