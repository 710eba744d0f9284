-- The names that are left come behind those so far.
use Rattle.std.proofs.Common.{◌≡◌, ◌≤◌, ◌++◌, length, take}
use Rattle.c_types.specs.Chains.{names_below}
use Rattle.c_types.specs.Layouts.{told_kept}
use Rattle.c_types.specs.Members.{entries_around}
use Rattle.c_types.proofs.chains.NameChain.copy_names.Given as goal

abbrev pub invariant-loop-index : goal.invariant-loop-index
invariant-loop-index l =
    record {
      within : l.index ≤ length l.self.entries;
      names : l.names.items ++ entries_around (told_kept l.layouts.kept.entries) l.anonymous (names_below (told_kept l.layouts.kept.entries) (take l.level l.self.links) l.self.entries l.index)
          ≡ l.fn.names.items ++ entries_around (told_kept l.layouts.kept.entries) l.anonymous (names_below (told_kept l.layouts.kept.entries) (take l.level l.self.links) l.self.entries l.fn.count);
    }

abbrev pub decreases-loop-index : goal.decreases-loop-index
decreases-loop-index l = l.index
