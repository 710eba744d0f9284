-- What the ids of names and the numbers of hide sets stand for.
use Rattle.std.specs.Prelude.{◌≡◌, ℕ, List, map}
use Rattle.std.specs.List.{list_any}
use Rattle.std.specs.Str.{bytes_eq}
use Rattle.meaning_macros.specs.Hiding.{NameSet, Hiding, no_names}
use Rattle.number_sets.specs.NumberSets.{IsSet, numbers_at}
use Rattle.number_sets.specs.NumberSets as sets
use Rattle.number_sets.specs.declared.sets.SetId.{SetId}
use Rattle.sparse_model.specs.declared.ids.NameId.{NameId}
use Rattle.c_tokens.specs.Seen.{IsKnown, text_of}
use Rattle.c_macros.specs.Seen.{KeepsApart, Spelling, token_by}
use Rattle.c_macros.specs.declared.item.Item.{Item}

-- The meaning of all ids and of all sets. A table that grows only adds to what is known of it.
pub record Reading : Type 0 where
  pub spelled : Spelling
  pub hidden : SetId → NameSet

-- the names with these numbers
abbrev pub names_of : Spelling → List ℕ → NameSet
names_of spelled numbers = λ name. list_any (λ (n : ℕ). bytes_eq (spelled (record { 0 = n })) name) numbers

-- the reading spells as the table does, keeps all ids apart, and set 0 is the empty one
pub record ReadsNames (names : List (List ℕ)) (r : Reading) : Type 0 where
  pub texts : (id : NameId) → IsKnown names id → r.spelled id ≡ text_of names id
  pub apart : KeepsApart r.spelled
  pub empty : (set : SetId) → set.0 ≡ 0 → r.hidden set ≡ no_names

-- the reading agrees with both tables
pub record Reads (names : List (List ℕ)) (table : sets.Table) (r : Reading) : Type 0 where
  pub spells : ReadsNames names r
  pub hides : (set : SetId) → IsSet table set → r.hidden set ≡ names_of r.spelled (numbers_at table set.0)

-- an item, as it is read
abbrev pub hiding_by : Reading → Item → Hiding
hiding_by r item = record { token = token_by r.spelled item.token; hides = r.hidden item.hides }

-- items, as they are read
abbrev pub hidings_by : Reading → List Item → List Hiding
hidings_by r items = map (hiding_by r) items

-- the item's id is one of the table
abbrev pub HasName : List (List ℕ) → Item → Type 0
HasName names item = IsKnown names item.token.name

-- the item's set is one of the table
abbrev pub HasSet : sets.Table → Item → Type 0
HasSet table item = IsSet table item.hides
