use Rattle.std.proofs.Common.{◌≡◌}
use Rattle.meaning_text.specs.Words.{begins_hexadecimal}
use Rattle.c_tokens.specs.Cursor.{ahead}
use Rattle.c_tokens.proofs.words.begins_hexadecimal.Given as goal

abbrev pub invariant-loop-left : goal.invariant-loop-left
invariant-loop-left l = begins_hexadecimal l.left (ahead l.cursor) ≡ begins_hexadecimal l.count (ahead l.start)

abbrev pub decreases-loop-left : goal.decreases-loop-left
decreases-loop-left l = l.left
