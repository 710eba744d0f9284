use Rattle.std.proofs.Common.{◌≡◌, ◌+◌, ◌≤◌, ◌^◌, length, false}
use Rattle.meaning_text.specs.Fronts.{block_tail_length, longer_by}
use Rattle.c_tokens.specs.Cursor.{ahead}
use Rattle.c_tokens.proofs.comments.block_tail_length.Given as goal

abbrev pub invariant-bytes : goal.invariant-bytes
invariant-bytes l =
    record {
      counted : longer_by l.count (block_tail_length l.behind_star (ahead l.cursor)) ≡ block_tail_length false (ahead l.start);
      within : l.count + length (ahead l.cursor) ≤ 2 ^ 31;
    }

abbrev pub decreases-bytes : goal.decreases-bytes
decreases-bytes l = length (ahead l.cursor)
