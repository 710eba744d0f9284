-- The part is made first, and the parameters of a function last.
use Rattle.std.proofs.Common.{[], ◌∷◌, ◌++◌, ap, ◌∙◌}
use Rattle.c_types.specs.Rows.{parameter_types, type_numbered, types_of}
use Rattle.c_types.specs.Trees.{after_steps, made_seen}
use Rattle.c_types.specs.declared.trees.Step.TheVariants.{Around, Make}
use Rattle.c_types.proofs.TreeLemmas.{array-around, function-around, pointer-around, steps-around, steps-function}
use Rattle.c_types.proofs.rows.Rows.begin.Goals as goal

pub returns-in_ok-push-in-Function-3-clause-taken : goal.returns-in_ok-push-in-Function-3-clause-taken
returns-in_ok-push-in-Function-3-clause-taken c =
    let types = types_of c.args.self.now.rows.entries in
    let tree = type_numbered types c.args.number in
    let outer = c.outer_shape-outer.result in
    let made = made_seen c.args.made.now.items in
    ap (λ items. after_steps types items made)
    (c.in_ok-push-in-Function-3.ensures.items
    ∙ ap (λ items. items ++ Make c.in-Function.part.0 ∷ []) (c.in_ok-push-in-Function-2.ensures.items ∙ ap (λ items. items ++ Around outer ∷ []) c.in_ok-push-in-Function.ensures.items))
    ∙ steps-function types c.args.steps.now.items outer c.args.number c.in-Function.part.0 made tree
    (function-around types outer c.in-Function.part.0 c.in-Function.field-1 (parameter_types tree) c.in-Function.field-2 tree c.in-Function.is c.outer_shape-outer.ensures.shape)

pub returns-in_ok-push-in-Pointer-2-clause-taken : goal.returns-in_ok-push-in-Pointer-2-clause-taken
returns-in_ok-push-in-Pointer-2-clause-taken c =
    let types = types_of c.args.self.now.rows.entries in
    let tree = type_numbered types c.args.number in
    let outer = c.outer_shape-outer.result in
    let made = made_seen c.args.made.now.items in
    ap (λ items. after_steps types items made)
    (c.in_ok-push-in-Pointer-2.ensures.items ∙ ap (λ items. items ++ Make c.in-Pointer.part.0 ∷ []) c.in_ok-push-in-Pointer.ensures.items)
    ∙ steps-around types c.args.steps.now.items outer c.in-Pointer.part.0 made tree
    (pointer-around types outer c.in-Pointer.part.0 (parameter_types tree) tree c.in-Pointer.is c.outer_shape-outer.ensures.shape)

pub returns-in_ok-push-in-Array-2-clause-taken : goal.returns-in_ok-push-in-Array-2-clause-taken
returns-in_ok-push-in-Array-2-clause-taken c =
    let types = types_of c.args.self.now.rows.entries in
    let tree = type_numbered types c.args.number in
    let outer = c.outer_shape-outer.result in
    let made = made_seen c.args.made.now.items in
    ap (λ items. after_steps types items made)
    (c.in_ok-push-in-Array-2.ensures.items ∙ ap (λ items. items ++ Make c.in-Array.part.0 ∷ []) c.in_ok-push-in-Array.ensures.items)
    ∙ steps-around types c.args.steps.now.items outer c.in-Array.part.0 made tree
    (array-around types outer c.in-Array.part.0 c.in-Array.field-1 (parameter_types tree) tree c.in-Array.is c.outer_shape-outer.ensures.shape)
