-- Levels that are opened along a way.
use Rattle.std.proofs.Common.{◌≡◌, ℕ, List, [], ◌∷◌, ◌++◌, None, map, sym, ap, ◌∙◌}
use Rattle.std.proofs.lemmas.List.{append_assoc}
use Rattle.meaning_initializers.specs.Items.{Items}
use Rattle.meaning_initializers.specs.Parts.{path_to}
use Rattle.c_types.specs.Table.{IsLonger, TypeTable}
use Rattle.initializer_levels.specs.declared.items.ItemList.{ItemList}
use Rattle.initializer_levels.specs.declared.parts.Part.{Part}
use Rattle.initializer_levels.specs.declared.walk.Walk as kept_walk
use Rattle.initializer_levels.specs.Arriving.{IsOpened}
use Rattle.initializer_levels.specs.Kept.{level_seen}
use Rattle.initializer_levels.specs.Levels.{Level, opened, place_along}
use Rattle.initializer_levels.specs.Parts.{part_seen, type_seen}
use Rattle.initializer_levels.specs.Walks.{levels_seen}

pub longer_on : (first second third : List (List ℕ)) → IsLonger first second → IsLonger second third → IsLonger first third
longer_on first second third one two =
    (one.0 ++ two.0, two.1 ∙ (ap (λ (paths : List (List ℕ)). paths ++ two.0) one.1 ∙ append_assoc first one.0 two.0))

-- a part more of the way
pub along_more : (table : TypeTable) (old new : List (List ℕ)) (read : ItemList → Items) (part next : Part) (more rest : List Part) (walk inner : kept_walk.Walk)
    → IsOpened table old new read part walk inner → rest ≡ next ∷ more
    → place_along (level_seen table new read inner.level) (levels_seen table new read inner.levels.items) (part_seen table next) (map (part_seen table) more)
    ≡ place_along (level_seen table old read walk.level) (levels_seen table old read walk.levels.items) (part_seen table part) (map (part_seen table) rest)
along_more table old new read part next more rest walk inner so is =
    ap (λ (level : Level). place_along level (levels_seen table new read inner.levels.items) (part_seen table next) (map (part_seen table) more)) so.level
    ∙ (ap (λ (levels : List Level). place_along (opened (type_seen table part.of) (path_to (type_seen table walk.level.of) (level_seen table old read walk.level).path (part_seen table part)) None) levels (part_seen table next) (map (part_seen table) more)) so.levels
    ∙ ap
    (λ (parts : List Part).
    place_along (level_seen table old read walk.level) (levels_seen table old read walk.levels.items) (part_seen table part) (map (part_seen table) parts))
    (sym is))
