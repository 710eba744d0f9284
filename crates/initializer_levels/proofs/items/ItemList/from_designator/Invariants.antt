-- What comes of the items that are left comes of all.
use Rattle.std.proofs.Common.{◌≡◌, List, length}
use Rattle.meaning_typing.specs.Facts.{Fact}
use Rattle.meaning_initializers.specs.Items.{from_designator}
use Rattle.decl_judge.specs.Units.{nodes_of}
use Rattle.initializer_levels.specs.Items.{items_left}
use Rattle.initializer_levels.proofs.items.ItemList.from_designator.Given as goal

abbrev pub invariant-items : goal.invariant-items
invariant-items l =
    (facts : List Fact) → from_designator (items_left (nodes_of l.unit) facts l.items) ≡ from_designator (items_left (nodes_of l.unit) facts l.fn.self)

abbrev pub decreases-items : goal.decreases-items
decreases-items l = length l.items.left.items
