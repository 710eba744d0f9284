use Rattle.std.proofs.Common.{◌≡◌, length}
use Rattle.meaning_preprocessing.specs.Search.{name_to_greater}
use Rattle.c_tokens.specs.Seen.{toks_of}
use Rattle.c_directives.specs.Conditions.{AreKnown}
use Rattle.c_directives.proofs.HeaderLemmas.{bytes_before}
use Rattle.c_directives.proofs.header.name_to_greater.Given as goal

-- the name so far and what is to come are all
abbrev pub invariant-tokens : goal.invariant-tokens
invariant-tokens l =
    record {
      same : bytes_before l.name.items (name_to_greater (toks_of l.names l.left)) ≡ name_to_greater (toks_of l.names l.tokens);
      known : AreKnown l.names l.left;
    }

abbrev pub decreases-tokens : goal.decreases-tokens
decreases-tokens l = length l.left
