use Rattle.std.proofs.Common.{◌∙◌, ap, sym}
use Rattle.std.proofs.lemmas.List.{nil_from_length}
use Rattle.c_directives.proofs.BodyLemmas.{are_new, are_new-known, keys_go_on, new_goes_on, old_stops}
use Rattle.c_directives.proofs.bodies.parameter_set.Goals as goal

pub loop-name-preserved : goal.loop-name-preserved
loop-name-preserved c =
    record {
      keys = keys_go_on c.loop-name.set.keys c.loop-name.left.now c.args.params.now c.in-Some.name.now c.in-Some.others.now _ _ c.in-Some.ensures.cases.0
          c.in_ok-added.ensures.added c.if-not-added.false c.in_ok-added.ensures.keys c.loop-name.invariant.keys;
      new = new_goes_on c.loop-name.set.keys c.loop-name.left.now c.args.params.now c.in-Some.name.now c.in-Some.others.now _ _ c.in-Some.ensures.cases.0
          c.in_ok-added.ensures.added c.if-not-added.false c.in_ok-added.ensures.keys c.loop-name.invariant.new;
    }

pub returns-then-not-added-clause-different : goal.returns-then-not-added-clause-different
returns-then-not-added-clause-different c =
    old_stops c.loop-name.set.keys c.loop-name.left.now c.args.params.now c.in-Some.name.now c.in-Some.others.now _ c.in-Some.ensures.cases.0
    c.in_ok-added.ensures.added c.if-not-added.true c.loop-name.invariant.new
    ∙ are_new-known c.args.names.now c.apart.ensures.apart c.args.params.now c.requires

pub returns-clause-different : goal.returns-clause-different
returns-clause-different c =
    ap (are_new c.loop-name.set.keys) (sym (nil_from_length _ c.in_default.ensures.cases)) ∙ c.loop-name.invariant.new
    ∙ are_new-known c.args.names.now c.apart.ensures.apart c.args.params.now c.requires
