-- A table of sets, as the list of them: each is the list of its numbers, and stands at its own number.
use Rattle.std.specs.Prelude.{◌≡◌, ◌<◌, ◌^◌, ℕ, zero, suc, Bool, List, [], ◌∷◌, ◌++◌, length, slice_get, unwrap_or, nat_eq}
use Rattle.std.specs.List.{list_any}
use Rattle.number_sets.specs.declared.sets.SetId.{SetId}

abbrev pub Table : Type 0
Table = List (List ℕ)

-- the numbers of the set at a place; past the end there is none
abbrev pub numbers_at : Table → ℕ → List ℕ
numbers_at table place = unwrap_or (slice_get table place) []

-- whether the set has the number
abbrev pub has : Table → ℕ → ℕ → Bool
has table place number = list_any (nat_eq number) (numbers_at table place)

-- the same of a set that is known by its id
abbrev pub holds : Table → SetId → ℕ → Bool
holds table set number = has table set.0 number

-- the id is that of a set of the table
abbrev pub IsSet : Table → SetId → Type 0
IsSet table set = set.0 < length table

-- each set of the old table stands in the new one, under its number
abbrev pub Extends : Table → Table → Type 0
Extends old new = (more : Table) × (new ≡ old ++ more)

-- so many sets of one number alone, from this number on
unfoldable pub singles : ℕ → ℕ → Table
singles zero number = []
singles (suc count) number = (number ∷ []) ∷ singles count (suc number)

-- the sets that stand from the start: that of no number, and that of each number alone
unfoldable pub plain_sets : Table
plain_sets = [] ∷ singles (2 ^ 30) 0
