use Rattle.std.proofs.Common.{◌≡◌, All, length, map, option_map}
use Rattle.meaning_preprocessing.specs.DefinitionLines.{parameters_from}
use Rattle.c_tokens.specs.declared.token.Token.{Token}
use Rattle.c_tokens.specs.Seen.{IsKnown, text_of, toks_of}
use Rattle.c_directives.proofs.ParameterLemmas.{names_before}
use Rattle.c_directives.proofs.parameters.read_parameters.Given as goal

-- the parameters so far and those to come are all
abbrev pub invariant-loop-parameter : goal.invariant-loop-parameter
invariant-loop-parameter l =
    record {
      list : option_map (names_before (map (text_of l.names) l.found.items)) (parameters_from (toks_of l.names l.left)) ≡ parameters_from (toks_of l.names l.tokens);
      names : All (IsKnown l.names) l.found.items;
      known : All (λ (token : Token). IsKnown l.names token.name) l.left;
    }

abbrev pub decreases-loop-parameter : goal.decreases-loop-parameter
decreases-loop-parameter l = length l.left
