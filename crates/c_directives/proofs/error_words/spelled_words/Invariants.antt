use Rattle.std.proofs.Common.{◌≡◌, ◌++◌, All, length}
use Rattle.meaning_preprocessing.specs.Directives.{error_words}
use Rattle.c_tokens.specs.declared.token.Token.{Token}
use Rattle.c_tokens.specs.Seen.{IsKnown, toks_of}
use Rattle.c_directives.proofs.error_words.spelled_words.Given as goal

-- the words so far and those to come are all
abbrev pub invariant-loop-token : goal.invariant-loop-token
invariant-loop-token l =
    record {
      words : l.words.items ++ error_words (toks_of l.names l.left) ≡ error_words (toks_of l.names l.line);
      known : All (λ (token : Token). IsKnown l.names token.name) l.left;
    }

abbrev pub decreases-loop-token : goal.decreases-loop-token
decreases-loop-token l = length l.left
