use Rattle.meaning_preprocessing.specs.DefinitionLines.{is_spelled, rest_name}
use Rattle.c_tokens.specs.declared.token.Token.{Token}
use Rattle.c_tokens.specs.Seen.{IsKnown, tok_of}
use Rattle.c_directives.proofs.FrontLemmas.{all_behind, any_behind}
use Rattle.c_directives.proofs.bodies.uses_rest.Goals as goal

pub loop-token-preserved : goal.loop-token-preserved
loop-token-preserved c =
    record {
      same = any_behind (tok_of c.args.names.now) (is_spelled rest_name) c.loop-token.left.now c.in-Some.others.now c.in-Some.token.now c.spells_rest.result _
          c.in-Some.ensures.cases.0 c.spells_rest.ensures c.if-spells_rest.false c.loop-token.invariant.same;
      known = all_behind (λ (t : Token). IsKnown c.args.names.now t.name) c.loop-token.left.now c.in-Some.others.now c.in-Some.token.now c.in-Some.ensures.cases.0 c.loop-token.invariant.known;
    }
