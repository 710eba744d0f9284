use Rattle.std.proofs.Common.{◌≡◌, map, length}
use Rattle.meaning_macros.specs.Agreement.{same_names}
use Rattle.c_macros.specs.Seen.{own_text}
use Rattle.c_macros.proofs.agreement.names_agree.Given as goal

-- what is left agrees where all does
abbrev pub invariant-loop-name : goal.invariant-loop-name
invariant-loop-name l = same_names (map own_text l.names) (map own_text l.others) ≡ same_names (map own_text l.old) (map own_text l.new)

abbrev pub decreases-loop-name : goal.decreases-loop-name
decreases-loop-name l = length l.names
