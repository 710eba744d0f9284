-- What the members that are left bring comes behind the names so far.
use Rattle.std.proofs.Common.{◌≡◌, ◌≤◌, ◌+◌, ◌++◌, ◌^◌, length}
use Rattle.c_types.specs.Maps.{AreKnownMembers, names_of_all}
use Rattle.c_types.specs.Members.{AreKnownNames, names_seen}
use Rattle.c_types.specs.Rows.{types_of}
use Rattle.c_types.proofs.maps.MemberMaps.names_of.Given as goal

abbrev pub invariant-members : goal.invariant-members
invariant-members l =
    record {
      names : names_seen (types_of l.rows.rows.entries) l.names.items ++ names_of_all l.rows l.layouts l.self l.place l.rest ≡ names_of_all l.rows l.layouts l.self l.first l.members;
      known : AreKnownNames (types_of l.rows.rows.entries) l.names.items;
      types : AreKnownMembers l.rows l.rest;
      few : l.place + length l.rest ≤ 2 ^ 30;
    }

abbrev pub decreases-members : goal.decreases-members
decreases-members l = length l.rest
