-- A function with one parameter more.
use Rattle.std.proofs.Common.{map, sym, ap, ◌∙◌}
use Rattle.meaning_types.specs.Types.{FunctionTree, MoreTypes, NoTypes}
use Rattle.c_types.specs.Trees.{base_of_ctype, tree_seen, with_marks, with_parameters}
use Rattle.c_types.proofs.TreeLemmas.{function-seen, function-seen-push, list_types}
use Rattle.c_types.proofs.trees.with_parameter.Goals as goal

pub returns-in_ok-push-in-Function : goal.returns-in_ok-push-in-Function
returns-in_ok-push-in-Function c =
    let function = c.args.function in
    let answer = c.in-Function.answer in
    let parameters = c.in-Function.parameters in
    ap (λ base. with_marks base function.is_const function.is_volatile function.noderef function.space)
    (function-seen answer c.push.new.self c.in-Function.variadic
    ∙ (λ i. FunctionTree (tree_seen answer.value) (list_types (map tree_seen (c.in_ok-push-in-Function.ensures.items i))) c.in-Function.variadic)
    ∙ function-seen-push (tree_seen answer.value) parameters.items c.args.parameter c.in-Function.variadic)
    ∙ sym (ap (λ base. with_parameters (with_marks base function.is_const function.is_volatile function.noderef function.space) (MoreTypes (tree_seen c.args.parameter) NoTypes))
    (ap base_of_ctype c.in-Function.is ∙ function-seen answer parameters c.in-Function.variadic))
