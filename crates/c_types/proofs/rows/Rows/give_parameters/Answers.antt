-- The first parameter goes before the others.
use Rattle.std.proofs.Common.{[], ◌∷◌, ◌++◌, ap, ◌∙◌}
use Rattle.c_types.specs.Rows.{types_of}
use Rattle.c_types.specs.Trees.{after_steps}
use Rattle.c_types.specs.declared.trees.Step.TheVariants.{Append, Make}
use Rattle.c_types.proofs.TreeLemmas.{steps-first, steps-none}
use Rattle.c_types.proofs.rows.Rows.give_parameters.Goals as goal

pub returns-in_ok-push-3-clause-taken : goal.returns-in_ok-push-3-clause-taken
returns-in_ok-push-3-clause-taken c = λ made.
    let types = types_of c.args.self.now.rows.entries in
    ap (λ items. after_steps types items made)
    (c.in_ok-push-3.ensures.items
    ∙ ap (λ items. items ++ Make c.in-Some.first ∷ []) (c.in_ok-push-2.ensures.items ∙ ap (λ items. items ++ Append ∷ []) c.in_ok-push.ensures.items))
    ∙ steps-first types c.args.steps.now.items c.args.number c.in-Some.first c.in-Some.rest c.in-Some.ensures.some.parameters made

pub returns-in_default-clause-taken : goal.returns-in_default-clause-taken
returns-in_default-clause-taken c = λ made.
    steps-none (types_of c.args.self.now.rows.entries) c.args.steps.now.items c.args.number c.in_default.ensures.none made
