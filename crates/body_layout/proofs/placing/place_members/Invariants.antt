-- What is placed, and what the rest makes of it.
use Rattle.std.proofs.Common.{◌≡◌, ◌++◌, ◌<◌, ◌≤◌, ◌^◌, All, length, map, max}
use Rattle.meaning_layout.specs.Placing.{bit_behind, first_bits, largest_align}
use Rattle.body_layout.specs.Seen.{IsPlaced, member_seen}
use Rattle.body_layout.proofs.placing.place_members.Given as goal

abbrev pub invariant-members : goal.invariant-members
invariant-members l =
    record {
      bits : first_bits l.packed (map member_seen l.members) 0 ≡ l.placing.first_bits.items ++ first_bits l.packed (map member_seen l.rest) l.placing.next;
      behind : bit_behind l.packed (map member_seen l.members) 0 ≡ bit_behind l.packed (map member_seen l.rest) l.placing.next;
      align : largest_align l.packed (map member_seen l.members) ≡ max l.placing.align (largest_align l.packed (map member_seen l.rest));
      placed : All IsPlaced l.rest;
      few : l.placing.next ≤ 2 ^ 43;
      narrow : l.placing.align ≤ 2 ^ 32;
      some : 0 < l.placing.align;
    }

abbrev pub decreases-members : goal.decreases-members
decreases-members l = length l.rest
