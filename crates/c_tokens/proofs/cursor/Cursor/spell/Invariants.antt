use Rattle.std.proofs.Common.{◌≡◌, ◌-◌, ◌≤◌, ◌++◌, length, take, drop}
use Rattle.c_tokens.specs.Cursor.{remaining, ahead}
use Rattle.c_tokens.proofs.cursor.Cursor.spell.Given as goal

abbrev pub invariant-loop-left : goal.invariant-loop-left
invariant-loop-left l =
    record {
      behind : drop l.left (remaining l.cursor) ≡ drop l.count (remaining l.self);
      spelled : l.spelling.items ++ take l.left (ahead l.cursor) ≡ l.fn.spelling.items ++ take l.count (ahead l.self);
      within : l.left ≤ l.count;
      shorter : length l.cursor.bytes.now ≤ length l.self.bytes.now - (l.count - l.left);
      file : l.cursor.place.file ≡ l.self.place.file;
    }

abbrev pub decreases-loop-left : goal.decreases-loop-left
decreases-loop-left l = l.left
