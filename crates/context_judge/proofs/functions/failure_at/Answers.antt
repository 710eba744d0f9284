-- By its kind.
use Rattle.std.proofs.Common.{sym, ap, ◌∙◌}
use Rattle.std.proofs.lemmas.Result.{IfOk-weaker}
use Rattle.meaning_typing.specs.Units.{kind_at}
use Rattle.decl_judge.specs.Units.{nodes_of}
use Rattle.expression_rows.specs.Rows.{failure_listed}
use Rattle.linear_code.specs.Known.{judged_unit}
use Rattle.judged_control.specs.Judged.{known_of_nodes}
use Rattle.context_judge.specs.Kinds.{is_function_definition}
use Rattle.context_judge.proofs.FunctionLemmas.{at-function, function-is}
use Rattle.context_judge.proofs.functions.failure_at.Goals as goal

pub returns-then-is_function_definition-clause-seen : goal.returns-then-is_function_definition-clause-seen
returns-then-is_function_definition-clause-seen c =
    let handle = c.args.handle in
    let kind = kind_at (nodes_of c.args.unit.now) handle in
    let is = function-is kind (ap is_function_definition (sym c.kind_at.ensures) ∙ sym c.is_function_definition.ensures ∙ c.if-is_function_definition.true) in
    IfOk-weaker c.failure_of.result _ _
    (λ failure seen table.
    at-function (judged_unit c.args.unit.now (known_of_nodes c.args.facts.now)) handle kind (failure_listed table failure) is (seen table))
    c.failure_of.ensures.seen
