-- A function without parameters is around its result.
use Rattle.std.proofs.Common.{map, sym, ap, ◌∙◌}
use Rattle.meaning_types.specs.Types.{FunctionTree}
use Rattle.c_types.specs.Trees.{base_around, tree_seen, with_marks}
use Rattle.c_types.proofs.TreeLemmas.{function-seen, list_types}
use Rattle.c_types.proofs.trees.around.Goals as goal

pub returns-in_ok-new-in-Function : goal.returns-in_ok-new-in-Function
returns-in_ok-new-in-Function c =
    let outer = c.args.outer in
    c.with_base-in-Function.ensures
    ∙ ap (λ base. with_marks base outer.is_const outer.is_volatile outer.noderef outer.space)
    (function-seen c.in_ok-new-in-Function.field-0 c.new-in-Function-2.result c.in-Function.variadic
    ∙ (λ i. FunctionTree (tree_seen (c.in_ok-new-in-Function.ensures.ok i)) (list_types (map tree_seen (c.new-in-Function-2.ensures.items i))) c.in-Function.variadic)
    ∙ sym (ap (λ base. base_around base (tree_seen c.args.part)) c.in-Function.is))
