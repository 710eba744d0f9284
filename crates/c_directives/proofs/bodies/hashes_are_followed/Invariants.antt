use Rattle.std.proofs.Common.{◌≡◌, All, length, map}
use Rattle.meaning_macros.specs.WellFormed.{hashes_are_followed}
use Rattle.c_tokens.specs.declared.token.Token.{Token}
use Rattle.c_tokens.specs.Seen.{IsKnown, text_of, toks_of}
use Rattle.c_directives.proofs.bodies.hashes_are_followed.Given as goal

-- what is left is followed where all is
abbrev pub invariant-loop-token : goal.invariant-loop-token
invariant-loop-token l =
    record {
      same : hashes_are_followed (map (text_of l.names) l.params.keys) (toks_of l.names l.left) ≡ hashes_are_followed (map (text_of l.names) l.params.keys) (toks_of l.names l.body);
      known : All (λ (token : Token). IsKnown l.names token.name) l.left;
    }

abbrev pub decreases-loop-token : goal.decreases-loop-token
decreases-loop-token l = length l.left
