use Rattle.std.proofs.Common.{◌≡◌, ◌+◌, ◌≤◌, ◌^◌, length, false}
use Rattle.meaning_text.specs.Fronts.{number_tail_length}
use Rattle.c_tokens.specs.Cursor.{ahead}
use Rattle.c_tokens.proofs.words.number_tail_length.Given as goal

abbrev pub invariant-loop-sign : goal.invariant-loop-sign
invariant-loop-sign l =
    record {
      counted : l.count + number_tail_length l.sign l.left (ahead l.cursor) ≡ number_tail_length false 0 (ahead l.start);
      within : l.count + length (ahead l.cursor) ≤ 2 ^ 31;
    }

abbrev pub decreases-loop-sign : goal.decreases-loop-sign
decreases-loop-sign l = length (ahead l.cursor)
