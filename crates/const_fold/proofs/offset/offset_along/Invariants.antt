-- The designators that are left lead on from the spot.
use Rattle.std.proofs.Common.{◌≡◌, ◌-◌, Some, drop, length}
use Rattle.c_types.specs.Layouts.{told_in}
use Rattle.c_types.specs.Table.{IsTypeId}
use Rattle.meaning_constants.specs.Sizes.{spot_along}
use Rattle.const_fold.specs.Offsets.{designators_at, members_of, spot_seen}
use Rattle.const_fold.proofs.offset.offset_along.Given as goal

abbrev pub invariant-designators : goal.invariant-designators
invariant-designators l =
    record {
      leads : spot_along (told_in l.types) (members_of l.types) (designators_at l.unit l.types l.nodes (drop l.place l.children)) (Some (spot_seen l.types l.spot))
          ≡ spot_along (told_in l.types) (members_of l.types) (designators_at l.unit l.types l.nodes (drop 1 l.children)) (Some (spot_seen l.types l.fn.from));
      known : IsTypeId l.types l.spot.of;
    }

abbrev pub decreases-designators : goal.decreases-designators
decreases-designators l = length l.children - l.place
