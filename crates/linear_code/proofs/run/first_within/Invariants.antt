-- The nodes of the tree before this one are of the tree of this one.
use Rattle.std.proofs.Common.{◌<◌, ℕ}
use Rattle.meaning_tree.specs.Laid.{IsWithin}
use Rattle.meaning_tree.specs.Nodes.{end_of}
use Rattle.linear_code.proofs.run.first_within.Given as goal

abbrev pub invariant-down : goal.invariant-down
invariant-down l =
    record {
      inside : l.first < end_of l.unit;
      within : IsWithin l.unit l.root l.first;
      begun : (part : ℕ) → IsWithin l.unit l.root part → part < l.first → IsWithin l.unit l.first part;
    }

abbrev pub decreases-down : goal.decreases-down
decreases-down l = l.first
