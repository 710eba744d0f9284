use Rattle.std.proofs.Common.{◌≡◌, All, length}
use Rattle.std.specs.List.{list_any}
use Rattle.meaning_preprocessing.specs.DefinitionLines.{is_spelled, rest_name}
use Rattle.c_tokens.specs.declared.token.Token.{Token}
use Rattle.c_tokens.specs.Seen.{IsKnown, toks_of}
use Rattle.c_directives.proofs.bodies.uses_rest.Given as goal

-- what is left has it where all has
abbrev pub invariant-loop-token : goal.invariant-loop-token
invariant-loop-token l =
    record {
      same : list_any (is_spelled rest_name) (toks_of l.names l.left) ≡ list_any (is_spelled rest_name) (toks_of l.names l.body);
      known : All (λ (token : Token). IsKnown l.names token.name) l.left;
    }

abbrev pub decreases-loop-token : goal.decreases-loop-token
decreases-loop-token l = length l.left
