-- What entries stand for, over the settings that they name.
use Rattle.std.specs.Prelude.{◌≡◌, ℕ, suc, ◌<◌, ◌/◌, List, [], ◌∷◌, ◌++◌, None, get_or, length, map}
use Rattle.std.specs.Global.{Vec}
use Rattle.node_surroundings.specs.declared.surrounding.Around.{Around}
use Rattle.node_surroundings.specs.declared.surrounding.Surrounding.{Surrounding}
use Rattle.node_surroundings.specs.declared.standing.Entry.{Entry}

-- nobody, where there is no such setting
abbrev pub nobody : Around
nobody = record { function = None; scope = 0 }

-- the entry of a node that stands so, where the setting has this number
abbrev pub entry_of : (setting : ℕ) → Surrounding → Entry
entry_of setting surrounding =
    record {
      parent = surrounding.parent;
      place = surrounding.place;
      setting = setting;
      want = surrounding.want;
      is_evaluated = surrounding.is_evaluated;
    }

-- and what an entry stands for
abbrev pub entry_seen : (settings : List Around) → Entry → Surrounding
entry_seen settings entry =
    record {
      parent = entry.parent;
      place = entry.place;
      want = entry.want;
      is_evaluated = entry.is_evaluated;
      around = get_or settings entry.setting nobody;
    }

-- the entries of nodes from this handle on, where each handle has settings
abbrev pub entries_seen : (ℕ → List Around) → (first : ℕ) → List Entry → List Surrounding
entries_seen settings first [] = []
entries_seen settings first (entry ∷ entries) = entry_seen (settings first) entry ∷ entries_seen settings (suc first) entries

-- each names a setting that is there
abbrev pub AreWithin : (ℕ → List Around) → (first : ℕ) → List Entry → Type 0
AreWithin settings first [] = Unit {0}
AreWithin settings first (entry ∷ entries) = (entry.setting < length (settings first)) × AreWithin settings (suc first) entries

-- lists of settings, as lists
abbrev pub lists_of : List (Vec Around) → List (List Around)
lists_of lists = map (λ list. list.items) lists

-- and the one of a handle
abbrev pub settings_at : List (Vec Around) → (handle : ℕ) → List Around
settings_at lists handle = get_or (lists_of lists) (handle / 32768) []

-- more of them came behind
abbrev pub IsLonger : List Around → List Around → Type 0
IsLonger old new = (more : List Around) × (new ≡ old ++ more)
