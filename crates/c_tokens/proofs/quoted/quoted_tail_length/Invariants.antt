use Rattle.std.proofs.Common.{◌≡◌, ◌+◌, ◌≤◌, ◌^◌, length, false}
use Rattle.meaning_text.specs.Fronts.{quoted_tail_length, longer_by}
use Rattle.c_tokens.specs.Cursor.{ahead}
use Rattle.c_tokens.proofs.quoted.quoted_tail_length.Given as goal

abbrev pub invariant-bytes : goal.invariant-bytes
invariant-bytes l =
    record {
      counted : longer_by l.count (quoted_tail_length l.quote l.escaped (ahead l.cursor)) ≡ quoted_tail_length l.quote false (ahead l.start);
      within : l.count + length (ahead l.cursor) ≤ 2 ^ 31;
    }

abbrev pub decreases-bytes : goal.decreases-bytes
decreases-bytes l = length (ahead l.cursor)
