use Rattle.std.proofs.Common.{◌≡◌, ◌+◌, ◌≤◌, ◌^◌, length}
use Rattle.meaning_text.specs.Fronts.{name_tail_length, longer_by}
use Rattle.c_tokens.specs.Cursor.{ahead}
use Rattle.c_tokens.proofs.quoted.name_tail_length.Given as goal

abbrev pub invariant-bytes : goal.invariant-bytes
invariant-bytes l =
    record {
      counted : longer_by l.count (name_tail_length l.closing (ahead l.cursor)) ≡ name_tail_length l.closing (ahead l.start);
      within : l.count + length (ahead l.cursor) ≤ 2 ^ 31;
    }

abbrev pub decreases-bytes : goal.decreases-bytes
decreases-bytes l = length (ahead l.cursor)
