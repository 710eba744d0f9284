use Rattle.std.proofs.Common.{◌≡◌, take}
use Rattle.cases.proofs.compare.first_difference.Given as goal

abbrev pub invariant-loop-place : goal.invariant-loop-place
invariant-loop-place l = take l.place l.expected ≡ take l.place l.got
