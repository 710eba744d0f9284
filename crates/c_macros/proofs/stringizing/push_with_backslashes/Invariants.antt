use Rattle.std.proofs.Common.{◌≡◌, ◌++◌, length}
use Rattle.meaning_macros.specs.Stringizing.{with_backslashes}
use Rattle.c_macros.proofs.stringizing.push_with_backslashes.Given as goal

-- the text so far and that of the bytes that are left are all
abbrev pub invariant-loop-byte : goal.invariant-loop-byte
invariant-loop-byte l = l.text.items ++ with_backslashes l.rest ≡ l.fn.text.items ++ with_backslashes l.spelling

abbrev pub decreases-loop-byte : goal.decreases-loop-byte
decreases-loop-byte l = length l.rest
