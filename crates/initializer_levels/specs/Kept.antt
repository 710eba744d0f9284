-- How levels are kept, over a table of types, paths, and a reading of the items that are left in braces.
use Rattle.std.specs.Prelude.{◌≡◌, ℕ, Bool, ◌&&◌, ◌||◌, not, nat_lt, List, option_map, if◌then◌else◌}
use Rattle.meaning_initializers.specs.Items.{Items}
use Rattle.c_types.specs.Table.{TypeTable, IsTypeId}
use Rattle.initializer_levels.specs.declared.items.ItemList.{ItemList}
use Rattle.initializer_levels.specs.declared.level.Level as kept
use Rattle.initializer_levels.specs.Levels.{Level}
use Rattle.initializer_levels.specs.Parts.{IsKnownParts, is_elements, parts_in, parts_seen, type_seen}
use Rattle.initializer_levels.specs.Paths.{IsPathIn, path_at}

abbrev pub level_seen : TypeTable → (paths : List (List ℕ)) → (read : ItemList → Items) → kept.Level → Level
level_seen table paths read level =
    record {
      type_ = type_seen table level.of;
      path = path_at paths level.path;
      number = level.number;
      is_over = level.is_over;
      is_designated = level.is_designated;
      is_filled = level.is_filled;
      length = level.length;
      behind = option_map read level.behind;
    }

-- its type is of the table, and says what it has for parts; where it stands is one of the paths
pub record IsKnownLevel (table : TypeTable) (paths : List (List ℕ)) (level : kept.Level) : Type 0 where
  pub type_ : IsTypeId table level.of.of
  pub parts : parts_seen table level.parts ≡ parts_in (type_seen table level.of)
  pub element : IsKnownParts table level.parts
  pub path : IsPathIn paths level.path

abbrev pub goes_on_kept : kept.Level → (is_filled : Bool) → Bool
goes_on_kept level is_filled = level.is_designated || (is_filled || not (is_elements level.parts))

-- up to the part before this number, if it took an item
abbrev pub length_kept : (length next : ℕ) → (is_filled : Bool) → ℕ
length_kept length next is_filled = if is_filled && nat_lt length next then next else length
