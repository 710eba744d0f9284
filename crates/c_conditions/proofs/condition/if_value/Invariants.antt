use Rattle.std.proofs.Common.{◌≡◌, ◌+◌, All, length}
use Rattle.meaning_conditions.specs.plain.Reading.{read_from, read, values}
use Rattle.c_tokens.specs.Seen.{IsKnown, toks_of}
use Rattle.c_conditions.specs.Frames.{state_seen}
use Rattle.c_conditions.proofs.condition.if_value.Given as goal

abbrev pub invariant-tokens : goal.invariant-tokens
invariant-tokens l =
    record {
      same : read_from values l.index (state_seen l.frames.items l.operand) (toks_of l.names l.rest) ≡ read values (toks_of l.names l.toks);
      count : l.index + length l.rest ≡ length l.toks;
      known : All (λ token. IsKnown l.names token.name) l.rest;
    }

abbrev pub decreases-tokens : goal.decreases-tokens
decreases-tokens l = length l.rest
