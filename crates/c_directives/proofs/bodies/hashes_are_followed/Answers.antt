use Rattle.std.proofs.Common.{map, ap}
use Rattle.c_tokens.specs.declared.token.Token.{Token}
use Rattle.c_tokens.specs.Seen.{IsKnown, text_of, tok_of, toks_of}
use Rattle.c_directives.proofs.BodyLemmas.{breaks_off, goes_on}
use Rattle.c_directives.proofs.FrontLemmas.{all_behind}
use Rattle.c_directives.proofs.bodies.hashes_are_followed.Goals as goal

pub loop-token-preserved : goal.loop-token-preserved
loop-token-preserved c =
    record {
      same = goes_on (map (text_of c.args.names.now) c.args.params.now.keys) (tok_of c.args.names.now c.in-Some.token.now) (toks_of c.args.names.now c.in-Some.others.now)
          (toks_of c.args.names.now c.loop-token.left.now) c.is_unfollowed.result _ (ap (toks_of c.args.names.now) c.in-Some.ensures.cases.0)
          c.is_unfollowed.ensures c.if-is_unfollowed.false c.loop-token.invariant.same;
      known = all_behind (λ (t : Token). IsKnown c.args.names.now t.name) c.loop-token.left.now c.in-Some.others.now c.in-Some.token.now c.in-Some.ensures.cases.0 c.loop-token.invariant.known;
    }

pub returns-then-is_unfollowed : goal.returns-then-is_unfollowed
returns-then-is_unfollowed c =
    breaks_off (map (text_of c.args.names.now) c.args.params.now.keys) (tok_of c.args.names.now c.in-Some.token.now) (toks_of c.args.names.now c.in-Some.others.now)
    (toks_of c.args.names.now c.loop-token.left.now) c.is_unfollowed.result _ (ap (toks_of c.args.names.now) c.in-Some.ensures.cases.0)
    c.is_unfollowed.ensures c.if-is_unfollowed.true c.loop-token.invariant.same
