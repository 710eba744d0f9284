-- An argument before it is expanded.
use Rattle.std.specs.Prelude.{Bool, true, false, List, []}
use Rattle.c_macros.specs.declared.item.Item.{Item}

-- the items, where they are asked for
abbrev pub if_asked : Bool → List Item → List Item
if_asked true items = items
if_asked false items = []
