use Rattle.std.proofs.Common.{All, Some, ap, sym, subst, ◌∙◌}
use Rattle.std.proofs.lemmas.List.Elements.{All-push}
use Rattle.c_tokens.specs.Seen.{IsKnown, text_of}
use Rattle.c_directives.specs.Definitions.{IsKnownParameter, parameter_seen}
use Rattle.c_directives.proofs.ParameterLemmas.{one_read}
use Rattle.c_directives.proofs.parameters.read_parameters.Goals as goal

pub loop-parameter-preserved : goal.loop-parameter-preserved
loop-parameter-preserved c =
    let names = c.args.names.now in
    let known = subst (IsKnownParameter names) c.in-Followed.is c.in-Some.ensures.known in
    record {
      list = one_read (text_of names) c.loop-parameter.found.items c.push.new.self.items c.in-Followed.name _ _ _ c.in_ok-push-in-Followed.ensures.items
          (ap (λ parameter. parameter_seen names (Some parameter)) (sym c.in-Followed.is) ∙ c.in-Some.ensures.parameter) c.loop-parameter.invariant.list;
      names = subst (All (IsKnown names)) (sym c.in_ok-push-in-Followed.ensures.items) (All-push (IsKnown names) c.loop-parameter.found.items c.in-Followed.name c.loop-parameter.invariant.names known.0);
      known = known.1;
    }
