use Rattle.std.proofs.Common.{◌≡◌, ◌++◌, length}
use Rattle.meaning_macros.specs.Stringizing.{with_backslashes}
use Rattle.c_preproc.proofs.first_state.push_with_backslashes.Given as goal

-- those so far and those to come are all
abbrev pub invariant-bytes : goal.invariant-bytes
invariant-bytes l = l.text.items ++ with_backslashes l.left ≡ l.fn.text.items ++ with_backslashes l.path

abbrev pub decreases-bytes : goal.decreases-bytes
decreases-bytes l = length l.left
