use Rattle.std.proofs.Common.{◌≡◌, ◌≤◌, length, drop}
use Rattle.c_tokens.specs.Cursor.{remaining}
use Rattle.c_tokens.proofs.cursor.Cursor.skip.Given as goal

abbrev pub invariant-loop-left : goal.invariant-loop-left
invariant-loop-left l =
    record {
      behind : drop l.left (remaining l.cursor) ≡ drop l.count (remaining l.self);
      shorter : length l.cursor.bytes.now ≤ length l.self.bytes.now;
      file : l.cursor.place.file ≡ l.self.place.file;
    }

abbrev pub decreases-loop-left : goal.decreases-loop-left
decreases-loop-left l = l.left
