-- What was found so far, and the items that are left behind it, are what was found before, and all items.
use Rattle.std.proofs.Common.{◌≡◌, ℕ, All, Bool, List, length}
use Rattle.meaning_typing.specs.Facts.{Fact}
use Rattle.meaning_initializers.specs.Plans.{extra_items, no_plan, refused}
use Rattle.c_types.specs.Table.{TypeTable}
use Rattle.decl_judge.specs.Units.{nodes_of}
use Rattle.initializer_levels.specs.Items.{items_left}
use Rattle.initializer_levels.specs.Met.{IsFindingIn, found_with}
use Rattle.initializer_levels.specs.Turns.{Found, found_behind}
use Rattle.initializer_levels.proofs.listing.push_extra.Given as goal

abbrev pub invariant-items : goal.invariant-items
invariant-items l =
    record {
      found : (facts : List Fact) (is_static : Bool) (table : TypeTable) (paths : List (List ℕ)) (found : Found)
          → found_behind (found_with (nodes_of l.unit) facts is_static table paths found l.findings.items)
          (refused (extra_items (items_left (nodes_of l.unit) facts l.items)) no_plan)
          ≡ found_behind (found_with (nodes_of l.unit) facts is_static table paths found l.fn.findings.items)
          (refused (extra_items (items_left (nodes_of l.unit) facts l.fn.items)) no_plan);
      known : (table : TypeTable) (paths : List (List ℕ)) → All (IsFindingIn table paths) l.fn.findings.items → All (IsFindingIn table paths) l.findings.items;
    }

abbrev pub decreases-items : goal.decreases-items
decreases-items l = length l.items.left.items
