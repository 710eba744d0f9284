use Rattle.std.proofs.Common.{◌≡◌, length}
use Rattle.meaning_answer.specs.Options.{has_new_line}
use Rattle.ksparse.proofs.option.has_new_line.Given as goal

abbrev pub invariant-bytes : goal.invariant-bytes
invariant-bytes l = has_new_line l.left ≡ has_new_line l.text

abbrev pub decreases-bytes : goal.decreases-bytes
decreases-bytes l = length l.left
