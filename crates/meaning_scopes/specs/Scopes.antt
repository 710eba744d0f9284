-- What is bound, and which entry a name stands for (C11 6.2.1, 6.2.3).
use Rattle.std.specs.Prelude.{ℕ, Bool, true, false, ◌&&◌, if◌then◌else◌, List, [], ◌∷◌, Option, None, Some, map}
use Rattle.vocabulary.specs.declared.scope.NameSpace.{NameSpace}
use Rattle.vocabulary.specs.declared.scope.NameSpace.TheVariants.{Ordinary, Tags, Labels}
use Rattle.vocabulary.specs.declared.scope.Bound.{Bound}

-- A name that is bound.
pub record Entry (N : Type 0) : Type 0 where
  pub space : NameSpace
  pub name : N
  -- a number that says what declared it
  pub declaration : ℕ
  pub bound : Bound

-- a name that is bound, or a mark where a scope was opened
pub data ScopeItem (N : Type 0) : Type 0 where
  Opened : ScopeItem N
  Binds : Entry N → ScopeItem N

-- what is bound, the innermost entry first
abbrev pub ScopeList : Type 0 → Type 0
ScopeList N = List (ScopeItem N)

-- An entry that a name stands for, and whether the innermost scope itself has it.
pub record Found (N : Type 0) : Type 0 where
  pub entry : Entry N
  pub is_innermost : Bool

-- two name spaces are one
abbrev pub same_space : NameSpace → NameSpace → Bool
same_space Ordinary Ordinary = true
same_space Tags Tags = true
same_space Labels Labels = true
same_space space other = false

-- Scopes

module _ {N : Type 0} where
  -- a scope is open
  abbrev pub is_open : ScopeList N → Bool
  is_open [] = false
  is_open (Opened ∷ items) = true
  is_open (Binds entry ∷ items) = is_open items

  -- the entries of the innermost scope, the last one first
  abbrev pub innermost : ScopeList N → List (Entry N)
  innermost [] = []
  innermost (Opened ∷ items) = []
  innermost (Binds entry ∷ items) = entry ∷ innermost items

  -- the list without its innermost scope
  abbrev pub without_scope : ScopeList N → ScopeList N
  without_scope [] = []
  without_scope (Opened ∷ items) = items
  without_scope (Binds entry ∷ items) = without_scope items

  -- the list with entries that are bound in turn
  abbrev pub with_entries : ScopeList N → List (Entry N) → ScopeList N
  with_entries items [] = items
  with_entries items (entry ∷ entries) = with_entries (Binds entry ∷ items) entries

-- Names

module _ {N : Type 0} (same : N → N → Bool) where
  -- an entry of this name in this space
  abbrev pub is_of : NameSpace → N → Entry N → Bool
  is_of space name entry = same_space entry.space space && same entry.name name

  -- the first entry of the name in the space, and whether no mark stands before it
  abbrev pub find_from : (is_innermost : Bool) → ScopeList N → NameSpace → N → Option (Found N)
  find_from is_innermost [] space name = None
  find_from is_innermost (Opened ∷ items) space name = find_from false items space name
  find_from is_innermost (Binds entry ∷ items) space name =
      if is_of space name entry then Some (record { entry = entry; is_innermost = is_innermost })
      else find_from is_innermost items space name

  -- what a name stands for: the inner of two scopes hides what the outer one declares in the same name space (6.2.1 p4)
  abbrev pub find : ScopeList N → NameSpace → N → Option (Found N)
  find items space name = find_from true items space name

-- Other names

module _ {N M : Type 0} (renaming : N → M) where
  -- an entry by its other name
  abbrev pub renamed_entry : Entry N → Entry M
  renamed_entry entry =
      record { space = entry.space; name = renaming entry.name; declaration = entry.declaration; bound = entry.bound }

  abbrev pub renamed_item : ScopeItem N → ScopeItem M
  renamed_item Opened = Opened
  renamed_item (Binds entry) = Binds (renamed_entry entry)

  -- the list with other names
  abbrev pub renamed : ScopeList N → ScopeList M
  renamed items = map renamed_item items

  abbrev pub renamed_found : Found N → Found M
  renamed_found found = record { entry = renamed_entry found.entry; is_innermost = found.is_innermost }
