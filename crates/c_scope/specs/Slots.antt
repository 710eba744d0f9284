-- How a map and the slots behind it stand for scopes: what each slot remembers, and what the map says.
use Rattle.std.specs.Prelude.{◌≡◌, ◌+◌, ◌≤◌, ◌^◌, ◌&&◌, ℕ, Bool, if◌then◌else◌, List, [], ◌∷◌, Option, None, Some, length}
use Rattle.vocabulary.specs.declared.scope.NameSpace.{NameSpace}
use Rattle.vocabulary.specs.contracts.scope.NameSpacePartialEq.TheImpl as spaces
use Rattle.sparse_model.specs.declared.ids.NameId.{NameId}
use Rattle.sparse_model.specs.contracts.ids.NameIdPartialEq.TheImpl as names
use Rattle.meaning_scopes.specs.Scopes.{Entry, ScopeItem, Opened, Binds}
use Rattle.c_scope.specs.declared.slot.Slot.{Slot}
use Rattle.c_scope.specs.declared.slot.Slot.TheVariants.{Mark, Name}
use Rattle.c_scope.specs.Seen.{entry_of}

-- the entry or the mark that a slot is
abbrev pub item_of : Slot → ScopeItem NameId
item_of (Mark opened) = Opened
item_of (Name binding hides) = Binds (entry_of binding)

-- the entries among slots
abbrev pub entries_in : List Slot → List (Entry NameId)
entries_in [] = []
entries_in (Mark opened ∷ slots) = entries_in slots
entries_in (Name binding hides ∷ slots) = entry_of binding ∷ entries_in slots

-- how the map compares a name in its name space
abbrev pub same_key : NameSpace × NameId → NameSpace × NameId → Bool
same_key key other = spaces.eq-value.it key.0 other.0 && names.eq-value.it key.1 other.1

-- A stack is the slots with the last one first, and a slot's place is the number of those behind it there.

-- the place of the newest entry of a name
abbrev pub newest_in : List Slot → NameSpace × NameId → Option ℕ
newest_in [] key = None
newest_in (Mark opened ∷ stack) key = newest_in stack key
newest_in (Name binding hides ∷ stack) key =
    if same_key (binding.space, binding.name) key then Some (length stack) else newest_in stack key

-- how many slots stand up to the last mark, with it
abbrev pub opened_in : List Slot → ℕ
opened_in [] = 0
opened_in (Mark opened ∷ stack) = length stack + 1
opened_in (Name binding hides ∷ stack) = opened_in stack

-- each slot has what was known where it came
abbrev pub Remembers : List Slot → Type 0
Remembers [] = Unit {0}
Remembers (Mark opened ∷ stack) = (opened ≡ opened_in stack) × Remembers stack
Remembers (Name binding hides ∷ stack) = (hides ≡ newest_in stack (binding.space, binding.name)) × Remembers stack

-- the map and the number are those of the stack
pub record IsIndex (newest : NameSpace × NameId → Option ℕ) (stack : List Slot) (opened : ℕ) : Type 0 where
  pub remembers : Remembers stack
  pub opened_at : opened ≡ opened_in stack
  pub found : (key : NameSpace × NameId) → newest key ≡ newest_in stack key
  pub few : length stack ≤ 2 ^ 31
