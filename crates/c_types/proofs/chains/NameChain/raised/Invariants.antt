-- The jump so far leads to the level that is asked, and comes from none below the entry's.
use Rattle.std.proofs.Common.{◌≤◌}
use Rattle.c_types.specs.Chains.{IsJumpOver}
use Rattle.c_types.specs.Layouts.{told_kept}
use Rattle.c_types.proofs.chains.NameChain.raised.Given as goal

abbrev pub invariant-loop-jump : goal.invariant-loop-jump
invariant-loop-jump l =
    record {
      stays : l.entry.level ≤ l.jump.level;
      within : l.jump.level ≤ l.level;
      right : IsJumpOver (told_kept l.layouts.kept.entries) l.self.links l.level l.jump;
    }

abbrev pub decreases-loop-jump : goal.decreases-loop-jump
decreases-loop-jump l = l.jump.level
