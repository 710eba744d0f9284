use Rattle.std.proofs.Common.{◌≡◌, ℕ, List, length}
use Rattle.meaning_attributes.specs.Pieces.{in_parentheses}
use Rattle.c_tokens.specs.Seen.{toks_of}
use Rattle.c_attrs.proofs.piece.in_parentheses.Given as goal

-- no token before those that are left opens a parenthesis
abbrev pub invariant-tokens : goal.invariant-tokens
invariant-tokens l = (names : List (List ℕ)) → in_parentheses (toks_of names l.rest) ≡ in_parentheses (toks_of names l.toks)

abbrev pub decreases-tokens : goal.decreases-tokens
decreases-tokens l = length l.rest
