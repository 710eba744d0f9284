-- The heaviest so far is one of the members.
use Rattle.std.proofs.Common.{IfSome}
use Rattle.c_types.specs.Maps.{IsHeavyAmong}
use Rattle.c_types.proofs.maps.MemberMaps.heaviest.Given as goal

abbrev pub invariant-loop-place : goal.invariant-loop-place
invariant-loop-place l = IfSome l.heaviest (IsHeavyAmong l.rows l.self l.members)
