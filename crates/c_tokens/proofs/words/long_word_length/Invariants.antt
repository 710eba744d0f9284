use Rattle.std.proofs.Common.{◌≡◌, ◌+◌, ◌≤◌, ◌^◌, length}
use Rattle.meaning_text.specs.Fronts.{word_length}
use Rattle.c_tokens.specs.Cursor.{ahead}
use Rattle.c_tokens.proofs.words.long_word_length.Given as goal

abbrev pub invariant-loop-cursor : goal.invariant-loop-cursor
invariant-loop-cursor l =
    record {
      counted : l.count + word_length (ahead l.cursor) ≡ word_length (ahead l.start);
      within : l.count + length (ahead l.cursor) ≤ 2 ^ 31;
    }

abbrev pub decreases-loop-cursor : goal.decreases-loop-cursor
decreases-loop-cursor l = length (ahead l.cursor)
