-- Initializers as they are read by their handles.
use Rattle.std.specs.Prelude.{ℕ, Bool, true, false, List}
use Rattle.vocabulary.specs.declared.node_kind.NodeKind.{NodeKind}
use Rattle.vocabulary.specs.declared.node_kind.NodeKind.TheVariants as kinds
use Rattle.meaning_typing.specs.Facts.{Fact}
use Rattle.meaning_typing.specs.Units.{UnitNodes}
use Rattle.meaning_initializers.specs.Items.{Given, Items}
use Rattle.meaning_initializers.specs.Reading.{given_at}
use Rattle.initializer_levels.specs.declared.items.ItemList.{ItemList}
use Rattle.initializer_levels.specs.Items.{items_behind}

-- a list in braces
abbrev pub is_braces : NodeKind → Bool
is_braces kinds.BracedInitializer = true
is_braces kind = false

-- a string, and the items behind it
abbrev pub string_told : UnitNodes → List Fact → ItemList → (handle : ℕ) → Given × Items
string_told nodes facts list handle = (given_at nodes facts handle, items_behind nodes facts list)
