use Rattle.std.proofs.Common.{◌≡◌, ◌+◌, ◌^◌, ◌≤◌, length}
use Rattle.c_tokens.specs.Remaining.{remaining_at}
use Rattle.c_tokens.proofs.cursor.Cursor.over_splices.Given as goal

abbrev pub invariant-loop-rest : goal.invariant-loop-rest
invariant-loop-rest l =
    record {
      same : remaining_at l.line_is_open l.place l.bytes ≡ remaining_at l.line_is_open l.fn.start l.text;
      within : length l.bytes ≤ length l.text;
      lines : l.place.line + length l.bytes ≤ 2 ^ 30;
      columns : l.place.column + length l.bytes ≤ 2 ^ 30;
      file : l.place.file ≡ l.fn.start.file;
    }

abbrev pub decreases-loop-rest : goal.decreases-loop-rest
decreases-loop-rest l = length l.bytes
