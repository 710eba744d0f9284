-- A substituted body, as the vectors that hold it.
use Rattle.std.specs.Prelude.{◌≡◌, ◌++◌, Bool, List, [], ◌∷◌, length}
use Rattle.meaning_macros.specs.Substitution.{LaidPart}
use Rattle.c_macros.specs.Reading.{Reading, hidings_by}
use Rattle.c_macros.specs.declared.item.Item.{Item}
use Rattle.c_macros.specs.declared.laid.Laid.{Laid}
use Rattle.c_macros.specs.declared.laid.LaidEnd.{LaidEnd}

-- the items of a chain, and the white space before it
pub record LaidItems : Type 0 where
  pub space : Bool
  pub items : List Item

-- the items of parts, of which the last stands first in this list
abbrev pub items_of : List LaidItems → List Item
items_of [] = []
items_of (part ∷ parts) = items_of parts ++ part.items

-- and where they end
abbrev pub ends_of : List LaidItems → List LaidEnd
ends_of [] = []
ends_of (part ∷ parts) = ends_of parts ++ record { space = part.space; end = length (items_of parts ++ part.items) } ∷ []

-- these are the parts, the last first
pub record Lays (laid : Laid) (parts : List LaidItems) : Type 0 where
  pub items : laid.items.items ≡ items_of parts
  pub ends : laid.ends.items ≡ ends_of parts

-- a part, as it is read
abbrev pub part_read : Reading → LaidItems → LaidPart
part_read r part = record { space = part.space; tokens = hidings_by r part.items }

-- the parts as they are read, in order and before others
abbrev pub parts_before : Reading → List LaidItems → List LaidPart → List LaidPart
parts_before r [] others = others
parts_before r (part ∷ parts) others = parts_before r parts (part_read r part ∷ others)
