use Rattle.c_tokens.specs.declared.token.Token.{Token}
use Rattle.c_tokens.specs.Seen.{IsKnown}
use Rattle.c_directives.proofs.ConditionLemmas.{word_put}
use Rattle.c_directives.proofs.FrontLemmas.{all_behind}
use Rattle.c_directives.proofs.error_words.spelled_words.Goals as goal

pub loop-token-preserved : goal.loop-token-preserved
loop-token-preserved c =
    record {
      words = word_put c.args.names.now c.loop-token.words.items c.push.new.self.items c.extend_from_slice.new.self.items c.in-Some.token.now c.spelling.result.now c.in-Some.others.now
          c.loop-token.left.now _ c.in-Some.ensures.cases.0 c.in_ok-push.ensures.items c.spelling.ensures.seen c.in_ok-extend_from_slice.ensures.items c.loop-token.invariant.words;
      known = all_behind (λ (t : Token). IsKnown c.args.names.now t.name) c.loop-token.left.now c.in-Some.others.now c.in-Some.token.now c.in-Some.ensures.cases.0 c.loop-token.invariant.known;
    }
