-- How the items that are left in braces are kept.
use Rattle.std.specs.Prelude.{ℕ, Bool, true, false, List, [], drop, length, reverse, if◌then◌else◌}
use Rattle.meaning_typing.specs.Facts.{Fact}
use Rattle.meaning_typing.specs.Units.{UnitNodes, child_at, node_at}
use Rattle.meaning_initializers.specs.Items.{Items, NoItems, Item, moved_with}
use Rattle.meaning_initializers.specs.Reading.{designators_of, initializer_at, items_of, parts_before_last}
use Rattle.initializer_levels.specs.declared.items.ItemList.{ItemList}
use Rattle.initializer_levels.specs.declared.items.NextItem.{NextItem}

-- the items, where the designators of the first one were followed, or weren't
abbrev pub led_with : (is_led : Bool) → Items → Items
led_with false items = items
led_with true NoItems = NoItems
led_with true (Item designators is_moved initializer items) = Item [] is_moved initializer items

-- these handles are those of items
abbrev pub items_in : UnitNodes → List Fact → (is_moved : Bool) → List ℕ → Items
items_in nodes facts is_moved items = moved_with is_moved (items_of nodes facts (initializer_at nodes facts) items)

abbrev pub items_left : UnitNodes → List Fact → ItemList → Items
items_left nodes facts list = led_with list.is_led (items_in nodes facts list.is_moved (reverse list.left.items))

-- those behind the next one
abbrev pub items_behind : UnitNodes → List Fact → ItemList → Items
items_behind nodes facts list = items_in nodes facts false (drop 1 (reverse list.left.items))

abbrev pub parts_count : UnitNodes → (handle : ℕ) → ℕ
parts_count nodes handle = length (node_at nodes handle).children

abbrev pub last_part : UnitNodes → (handle : ℕ) → ℕ
last_part nodes handle = child_at nodes handle (parts_before_last nodes handle)

abbrev pub item_seen : UnitNodes → List Fact → NextItem → (behind : Items) → Items
item_seen nodes facts next behind =
    Item (if next.is_designated then designators_of nodes facts next.item else []) next.is_moved (initializer_at nodes facts next.initializer) behind

-- where the designators of the next one were followed
abbrev pub led_list : ItemList → ItemList
led_list list = record list { is_moved = true; is_led = true }
