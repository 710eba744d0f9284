use Rattle.std.proofs.Common.{◌≡◌, ℕ, length}
use Rattle.meaning_attributes.specs.Integers.{constants_from}
use Rattle.c_tokens.specs.Seen.{toks_of}
use Rattle.c_attrs.proofs.integer.last_integer.Given as goal

-- no token behind those that are left is a constant
abbrev pub invariant-tokens : goal.invariant-tokens
invariant-tokens l = (start : ℕ) → constants_from start (toks_of l.names l.rest) ≡ constants_from start (toks_of l.names l.toks)

abbrev pub decreases-tokens : goal.decreases-tokens
decreases-tokens l = length l.rest
