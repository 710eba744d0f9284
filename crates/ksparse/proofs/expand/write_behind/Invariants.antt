use Rattle.std.proofs.Common.{◌≡◌, ◌++◌, length}
use Rattle.c_tokens.specs.Seen.{at_of, toks_of}
use Rattle.c_directives.specs.Conditions.{AreKnown}
use Rattle.meaning_answer.specs.Tokens.{tokens_behind}
use Rattle.ksparse.proofs.expand.write_behind.Given as goal

abbrev pub invariant-tokens : goal.invariant-tokens
invariant-tokens l =
    record {
      text : l.text.items ++ tokens_behind (at_of l.before) (toks_of l.names l.left) ≡ l.fn.text.items ++ tokens_behind (at_of l.fn.place) (toks_of l.names l.tokens);
      known : AreKnown l.names l.left;
    }

abbrev pub decreases-tokens : goal.decreases-tokens
decreases-tokens l = length l.left
