-- The step is the last of the steps.
use Rattle.std.proofs.Common.{[], ◌∷◌, ◌++◌, sym, ap, ◌∙◌}
use Rattle.c_types.specs.Rows.{types_of}
use Rattle.c_types.specs.Trees.{after_steps, made_seen}
use Rattle.c_types.specs.declared.trees.Step.TheVariants.{Append, Around, Make}
use Rattle.c_types.proofs.TreeLemmas.{OnOk_from, after_steps-push}
use Rattle.c_types.proofs.rows.Rows.take_step.Goals as goal

pub returns-in-Make-clause-taken : goal.returns-in-Make-clause-taken
returns-in-Make-clause-taken c =
    let types = types_of c.args.self.now.rows.entries in
    OnOk_from c.begin.result
    (λ taken. taken ∙ sym (after_steps-push types c.args.steps.now.items (Make c.in-Make.number) (made_seen c.args.made.now.items))
    ∙ ap (λ step. after_steps types (c.args.steps.now.items ++ step ∷ []) (made_seen c.args.made.now.items)) (sym c.in-Make.is))
    c.begin.ensures.taken

pub returns-in-Around-clause-taken : goal.returns-in-Around-clause-taken
returns-in-Around-clause-taken c =
    let types = types_of c.args.self.now.rows.entries in
    OnOk_from c.put_around.result
    (λ put. ap (after_steps types c.args.steps.now.items) (put types)
    ∙ sym (after_steps-push types c.args.steps.now.items (Around c.in-Around.outer) (made_seen c.args.made.now.items))
    ∙ ap (λ step. after_steps types (c.args.steps.now.items ++ step ∷ []) (made_seen c.args.made.now.items)) (sym c.in-Around.is))
    c.put_around.ensures

pub returns-in-Append-clause-taken : goal.returns-in-Append-clause-taken
returns-in-Append-clause-taken c =
    let types = types_of c.args.self.now.rows.entries in
    OnOk_from c.append.result
    (λ put. ap (after_steps types c.args.steps.now.items) (put types)
    ∙ sym (after_steps-push types c.args.steps.now.items Append (made_seen c.args.made.now.items))
    ∙ ap (λ step. after_steps types (c.args.steps.now.items ++ step ∷ []) (made_seen c.args.made.now.items)) (sym c.in-Append.is))
    c.append.ensures
