use Rattle.std.proofs.Common.{◌≡◌, ◌+◌, ℕ, List, length}
use Rattle.meaning_attributes.specs.Pieces.{length_to_inside}
use Rattle.c_tokens.specs.Seen.{toks_of}
use Rattle.c_attrs.proofs.piece.length_to_inside.Given as goal

-- the count so far and that to come are all
abbrev pub invariant-tokens : goal.invariant-tokens
invariant-tokens l =
    record {
      same : (names : List (List ℕ)) → l.count + length_to_inside (toks_of names l.rest) ≡ length_to_inside (toks_of names l.toks);
      size : l.count + length l.rest ≡ length l.toks;
    }

abbrev pub decreases-tokens : goal.decreases-tokens
decreases-tokens l = length l.rest
