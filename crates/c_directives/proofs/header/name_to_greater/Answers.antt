use Rattle.std.proofs.Common.{sym, ◌∙◌}
use Rattle.c_tokens.specs.declared.token.Token.{Token}
use Rattle.c_tokens.specs.Seen.{IsKnown}
use Rattle.c_directives.proofs.FrontLemmas.{all_behind}
use Rattle.c_directives.proofs.HeaderLemmas.{name_goes_on}
use Rattle.c_directives.proofs.header.name_to_greater.Goals as goal

pub tokens-preserved : goal.tokens-preserved
tokens-preserved c =
    record {
      same = name_goes_on c.args.names.now c.tokens.name.items c.extend_from_slice.new.self.items c.spelling.result.now c.in-Some.token.now c.in-Some.others.now c.tokens.left.now _
          c.in-Some.ensures.cases.0 (sym c.is_greater.ensures ∙ c.if-is_greater.false) c.spelling.ensures.seen c.in_ok-extend_from_slice.ensures.items c.tokens.invariant.same;
      known = all_behind (λ (t : Token). IsKnown c.args.names.now t.name) c.tokens.left.now c.in-Some.others.now c.in-Some.token.now c.in-Some.ensures.cases.0 c.tokens.invariant.known;
    }
