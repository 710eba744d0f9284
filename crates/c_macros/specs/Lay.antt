-- A substituted body before what is read.
use Rattle.std.specs.Prelude.{◌≡◌, ◌||◌, ℕ, Bool, List, [], ◌∷◌, ◌++◌}
use Rattle.meaning_macros.specs.Hiding.{NameSet, Hiding, hiding, space_first}
use Rattle.number_sets.specs.NumberSets as sets
use Rattle.number_sets.specs.declared.sets.SetId.{SetId}
use Rattle.c_macros.specs.declared.item.Item.{Item}
use Rattle.c_macros.specs.Laid.{LaidItems}
use Rattle.c_macros.specs.Reading.{Reading, Reads, hidings_by}
use Rattle.c_macros.specs.Waiting.{backwards}

-- white space before the first item
abbrev pub with_space : Bool → List Item → List Item
with_space space [] = []
with_space space (item ∷ items) = record item { token = record item.token { space_before = space || item.token.space_before } } ∷ items

-- the items stand on top, the first on top of the others, and hide these names too
pub record PutOn (table : sets.Table) (hides : SetId) (part work put : List Item) : Type 0 where
  pub items : List Item
  pub stand : put ≡ work ++ backwards items
  pub read : (names : List (List ℕ)) (r : Reading) → Reads names table r → hidings_by r items ≡ hiding (r.hidden hides) (hidings_by r part)

-- parts, the last first, before the rest
abbrev pub laid_from : NameSet → Reading → List LaidItems → List Hiding → List Hiding
laid_from names r [] rest = rest
laid_from names r (part ∷ parts) rest = laid_from names r parts (space_first part.space (hiding names (hidings_by r part.items) ++ rest))

-- the parts stand on top, above what is below
pub record LaidOn (table : sets.Table) (hides : SetId) (parts : List LaidItems) (below now work : List Item) : Type 0 where
  pub items : List Item
  pub stand : work ≡ below ++ backwards items
  pub read : (names : List (List ℕ)) (r : Reading) → Reads names table r → hidings_by r items ≡ laid_from (r.hidden hides) r parts (hidings_by r now)

-- the same, with this white space before what is read then
pub record SpacedOn (table : sets.Table) (hides : SetId) (space : Bool) (parts : List LaidItems) (below now work : List Item) : Type 0 where
  pub items : List Item
  pub stand : work ≡ below ++ backwards (with_space space items)
  pub read : (names : List (List ℕ)) (r : Reading) → Reads names table r → hidings_by r items ≡ laid_from (r.hidden hides) r parts (hidings_by r now)
