use Rattle.c_tokens.specs.declared.token.Token.{Token}
use Rattle.c_tokens.specs.Seen.{IsKnown}
use Rattle.c_directives.proofs.FrontLemmas.{all_behind}
use Rattle.c_directives.proofs.parameters.last_parameter.Goals as goal

pub returns-then-eq-clause-known : goal.returns-then-eq-clause-known
returns-then-eq-clause-known c = λ names here known.
    (here, all_behind (λ (t : Token). IsKnown names t.name) c.args.tokens.now c.in_ok-first.body.now c.in_ok-first.first.now c.in_ok-first.ensures.cases.0 known)
