-- The largest member so far, and the rest.
use Rattle.std.proofs.Common.{◌≡◌, ◌<◌, ◌≤◌, ◌^◌, All, length, map, max}
use Rattle.meaning_layout.specs.Placing.{largest_align, largest_bits}
use Rattle.body_layout.specs.Seen.{IsPlaced, member_seen}
use Rattle.body_layout.proofs.union.union_extent.Given as goal

abbrev pub invariant-members : goal.invariant-members
invariant-members l =
    record {
      bits : largest_bits (map member_seen l.members) ≡ max l.bits (largest_bits (map member_seen l.rest));
      align : largest_align l.packed (map member_seen l.members) ≡ max l.align (largest_align l.packed (map member_seen l.rest));
      placed : All IsPlaced l.rest;
      few : l.bits ≤ 2 ^ 43;
      narrow : l.align ≤ 2 ^ 32;
      some : 0 < l.align;
    }

abbrev pub decreases-members : goal.decreases-members
decreases-members l = length l.rest
