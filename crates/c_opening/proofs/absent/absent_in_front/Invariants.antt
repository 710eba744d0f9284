-- The items so far are absent.
use Rattle.std.proofs.Common.{take}
use Rattle.vocabulary.specs.declared.token_class.TokenClass.{TokenClass}
use Rattle.c_opening.specs.Absent.{AreAbsent}
use Rattle.c_opening.proofs.absent.absent_in_front.Given as goal

abbrev pub invariant-loop-count : goal.invariant-loop-count
invariant-loop-count l = (second : TokenClass) → AreAbsent l.next second (take l.count l.items)
