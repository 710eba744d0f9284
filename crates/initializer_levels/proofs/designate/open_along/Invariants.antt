-- From the levels so far the parts that are left lead to the place.
use Rattle.std.proofs.Common.{◌≡◌, All, length, map}
use Rattle.meaning_initializers.specs.Items.{Items}
use Rattle.c_types.specs.Table.{IsLonger}
use Rattle.initializer_levels.specs.declared.items.ItemList.{ItemList}
use Rattle.initializer_levels.specs.Kept.{level_seen}
use Rattle.initializer_levels.specs.Levels.{place_along}
use Rattle.initializer_levels.specs.Parts.{IsKnownPart, part_seen}
use Rattle.initializer_levels.specs.Walks.{IsKnownWalk, levels_seen}
use Rattle.initializer_levels.proofs.designate.open_along.Given as goal

abbrev pub invariant-parts : goal.invariant-parts
invariant-parts l =
    record {
      place : (read : ItemList → Items)
          → place_along (level_seen l.types l.paths read l.walk.level) (levels_seen l.types l.paths read l.walk.levels.items) (part_seen l.types l.part)
          (map (part_seen l.types) l.rest)
          ≡ place_along (level_seen l.types l.fn.paths read l.fn.walk.level) (levels_seen l.types l.fn.paths read l.fn.walk.levels.items) (part_seen l.types l.initial.part)
          (map (part_seen l.types) l.others);
      items : l.walk.items ≡ l.fn.walk.items;
      known : IsKnownWalk l.types l.paths l.walk;
      part : IsKnownPart l.types l.part;
      others : All (IsKnownPart l.types) l.rest;
      keeps : IsLonger l.fn.paths l.paths;
    }

abbrev pub decreases-parts : goal.decreases-parts
decreases-parts l = length l.rest
