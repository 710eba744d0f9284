use Rattle.std.proofs.Common.{◌≡◌, All, length, map}
use Rattle.std.specs.List.{list_any}
use Rattle.std.specs.Str.{bytes_eq}
use Rattle.meaning_preprocessing.specs.DefinitionLines.{rest_name}
use Rattle.c_tokens.specs.Seen.{IsKnown, text_of}
use Rattle.c_directives.proofs.bodies.has_rest.Given as goal

-- what is left has it where all has
abbrev pub invariant-loop-name : goal.invariant-loop-name
invariant-loop-name l =
    record {
      same : list_any (bytes_eq rest_name) (map (text_of l.names) l.left) ≡ list_any (bytes_eq rest_name) (map (text_of l.names) l.params);
      known : All (IsKnown l.names) l.left;
    }

abbrev pub decreases-loop-name : goal.decreases-loop-name
decreases-loop-name l = length l.left
