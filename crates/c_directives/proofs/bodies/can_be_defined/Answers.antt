use Rattle.std.proofs.Common.{rules, ◌&&◌, ap, sym, ◌∙◌}
use Rattle.c_directives.proofs.BodyLemmas.{macro-can, macro-cannot}
use Rattle.c_directives.proofs.bodies.can_be_defined.Goals as goal

pub returns-then-not-is_body_right : goal.returns-then-not-is_body_right
returns-then-not-is_body_right c =
    macro-cannot c.args.names.now c.args.m.now c.params_of-params.result.now c.in-Some.set.keys c.as_slice-body.result.now c.is_some.result c.is_body_right.result
    c.params_of-params.ensures c.as_slice-body.ensures (search rules) c.is_some.ensures (search rules) c.is_body_right.ensures c.if-not-is_body_right.true

pub returns : goal.returns
returns c =
    ap (λ right. right && c.has_rest_rightly.result) (sym c.if-not-is_body_right.false)
    ∙ macro-can c.args.names.now c.args.m.now c.params_of-params.result.now c.in-Some.set.keys c.as_slice-body.result.now c.is_some.result c.is_body_right.result c.has_rest_rightly.result
    c.params_of-params.ensures c.as_slice-body.ensures (search rules) c.is_some.ensures (search rules) c.is_body_right.ensures c.has_rest_rightly.ensures
