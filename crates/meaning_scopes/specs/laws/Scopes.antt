-- What holds of scopes.
use Rattle.std.specs.Prelude.{◌≡◌, ◌↔◌, Bool, true, ◌&&◌, if◌then◌else◌, List, [], ◌∷◌, Option, None, Some, option_map, reverse}
use Rattle.vocabulary.specs.declared.scope.NameSpace.{NameSpace}
use Rattle.meaning_scopes.specs.Scopes.{Entry, Opened, Binds, ScopeList, Found, same_space, is_open, innermost, without_scope, with_entries, is_of, find, renamed, renamed_found}

-- the first of these entries that is of the name
abbrev pub first_of : {N : Type 0} → (same : N → N → Bool) → List (Entry N) → NameSpace → N → Option (Entry N)
first_of same [] space name = None
first_of same (entry ∷ entries) space name =
    if is_of same space name entry then Some entry else first_of same entries space name

-- all entries, whatever their scope
abbrev pub entries_of : {N : Type 0} → ScopeList N → List (Entry N)
entries_of [] = []
entries_of (Opened ∷ items) = entries_of items
entries_of (Binds entry ∷ items) = entry ∷ entries_of items

-- the entry that was found, if the innermost scope has it
abbrev pub entry_here : {N : Type 0} → Option (Found N) → Option (Entry N)
entry_here None = None
entry_here (Some found) = if found.is_innermost then Some found.entry else None

-- what a name stands for is the first of all entries of the name
abbrev pub FindsFirst : Type 0 → Type 0
FindsFirst N =
    (same : N → N → Bool) (items : ScopeList N) (space : NameSpace) (name : N)
    → option_map (λ found. found.entry) (find same items space name) ≡ first_of same (entries_of items) space name

-- and it is said to be the innermost scope's exactly where that scope has an entry of the name
abbrev pub FindsInnermost : Type 0 → Type 0
FindsInnermost N =
    (same : N → N → Bool) (items : ScopeList N) (space : NameSpace) (name : N)
    → entry_here (find same items space name) ≡ first_of same (innermost items) space name

-- a name space is told from each other one
abbrev pub SpacesAreTold : Type 0
SpacesAreTold = (space other : NameSpace) → (same_space space other ≡ true) ↔ (space ≡ other)

-- a scope that is opened and left leaves what stood before, whatever it bound
abbrev pub LeavesNothing : Type 0 → Type 0
LeavesNothing N =
    (items : ScopeList N) (entries : List (Entry N)) → without_scope (with_entries (Opened ∷ items) entries) ≡ items

-- a scope that is left and opened again with its entries, in the order in which they were bound, is as it was
abbrev pub OpensAgain : Type 0 → Type 0
OpensAgain N =
    (items : ScopeList N) → is_open items ≡ true
    → with_entries (Opened ∷ without_scope items) (reverse (innermost items)) ≡ items

-- each entry has a name that passes the test
abbrev pub all_named : {N : Type 0} → (N → Bool) → ScopeList N → Bool
all_named test [] = true
all_named test (Opened ∷ items) = all_named test items
all_named test (Binds entry ∷ items) = test entry.name && all_named test items

-- where known names are equal exactly as their other names are, either find the same
abbrev pub NamesAreRenamed : Type 0 → Type 0 → Type 0
NamesAreRenamed N M =
    (same : N → N → Bool) (same_other : M → M → Bool) (renaming : N → M) (is_known : N → Bool)
    → ((name other : N) → is_known name ≡ true → is_known other ≡ true → same_other (renaming name) (renaming other) ≡ same name other)
    → (items : ScopeList N) (space : NameSpace) (name : N) → all_named is_known items ≡ true → is_known name ≡ true
    → find same_other (renamed renaming items) space (renaming name) ≡ option_map (renamed_found renaming) (find same items space name)
