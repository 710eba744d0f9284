-- The members so far are placed, and those that are left come behind them.
use Rattle.std.proofs.Common.{◌≡◌, ◌<◌, All, length, map}
use Rattle.meaning_layout.specs.Telling.{placed_members}
use Rattle.body_layout.specs.Seen.{IsPlaced}
use Rattle.c_types.specs.Layouts.{member_told, placed_before, told_kept}
use Rattle.c_types.specs.Rows.{types_of}
use Rattle.c_types.proofs.layouts.Layouts.place.Given as goal

abbrev pub invariant-members : goal.invariant-members
invariant-members l =
    record {
      members : placed_members (told_kept l.self.kept.entries) (map (member_told (types_of l.rows.rows.entries)) l.members)
          ≡ placed_before l.placed.items (placed_members (told_kept l.self.kept.entries) (map (member_told (types_of l.rows.rows.entries)) l.rest));
      placed : All IsPlaced l.placed.items;
      known : All (λ member. member.of.0 < length (types_of l.rows.rows.entries)) l.rest;
    }

abbrev pub decreases-members : goal.decreases-members
decreases-members l = length l.rest
