use Rattle.std.proofs.Common.{◌≡◌, ◌+◌, ◌-◌, ◌≤◌, length, drop}
use Rattle.c_tokens.specs.Remaining.{plain_word_length}
use Rattle.c_tokens.proofs.words.plain_word_length.Given as goal

abbrev pub invariant-loop-count : goal.invariant-loop-count
invariant-loop-count l =
    record {
      counted : l.count + plain_word_length (drop l.count l.bytes) ≡ plain_word_length l.bytes;
      within : l.count ≤ length l.bytes;
    }

abbrev pub decreases-loop-count : goal.decreases-loop-count
decreases-loop-count l = length l.bytes - l.count
