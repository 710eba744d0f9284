-- The arguments break a least constraint, and their number another one.
use Rattle.std.proofs.Common.{map, sym, ap, ◌∙◌}
use Rattle.std.proofs.lemmas.List.{length-map}
use Rattle.meaning_typing.specs.Expressions.{arguments_passed}
use Rattle.meaning_rules.specs.Rules.{least_broken}
use Rattle.c_types.specs.Rows.{parameter_types}
use Rattle.c_types.specs.Table.{type_at}
use Rattle.expression_rows.specs.Arguments.{argument_seen, called_as, result_with}
use Rattle.expression_rows.proofs.CallLemmas.{called_told}
use Rattle.expression_rows.proofs.call.call_of.Goals as goal

pub returns-clause-row : goal.returns-clause-row
returns-clause-row c =
    let old = c.args.types.now in
    let function = type_at old c.args.function in
    let arguments = map (argument_seen old) c.args.arguments.now in
    c.in_ok-row.ensures.row
    ∙ (λ i. called_as c.args.token (c.in_ok-passed.ensures.broken i) (c.result_with-answer.ensures.answer i))
    ∙ ap (λ count. called_as c.args.token (least_broken (arguments_passed 1 arguments (parameter_types function)).broken) (result_with count function))
    (sym (length-map c.args.arguments.now (argument_seen old)))
    ∙ called_told c.args.token arguments function
