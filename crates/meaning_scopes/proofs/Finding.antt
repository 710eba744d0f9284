-- What is found is the first entry of the name, by whatever names.
use Rattle.std.proofs.Common.{◌≡◌, Bool, true, false, ◌&&◌, if◌then◌else◌, [], ◌∷◌, Option, None, Some, option_map, ◌↔◌, refl, sym, ap, ◌∙◌}
use Rattle.std.proofs.lemmas.Bool.{false≢true, and_parts}
use Rattle.vocabulary.specs.declared.scope.NameSpace.{NameSpace}
use Rattle.vocabulary.specs.declared.scope.NameSpace.TheVariants.{Ordinary, Tags, Labels}
use Rattle.meaning_scopes.specs.Scopes.{Entry, Opened, Binds, ScopeList, Found, same_space, innermost, is_of, find_from, find, renamed, renamed_entry, renamed_found}
use Rattle.meaning_scopes.specs.laws.Scopes.{first_of, entries_of, entry_here, all_named}

-- a function of a choice
pub ap-if : {A B : Type 0} (f : A → B) (choice : Bool) (first second : A) → f (if choice then first else second) ≡ (if choice then f first else f second)
ap-if f true first second = refl
ap-if f false first second = refl

same_space-refl : (space : NameSpace) → same_space space space ≡ true
same_space-refl Ordinary = refl
same_space-refl Tags = refl
same_space-refl Labels = refl

same_space-equal : (space other : NameSpace) → same_space space other ≡ true → space ≡ other
same_space-equal Ordinary Ordinary same = refl
same_space-equal Tags Tags same = refl
same_space-equal Labels Labels same = refl
same_space-equal Ordinary Tags same = absurd (false≢true same)
same_space-equal Ordinary Labels same = absurd (false≢true same)
same_space-equal Tags Ordinary same = absurd (false≢true same)
same_space-equal Tags Labels same = absurd (false≢true same)
same_space-equal Labels Ordinary same = absurd (false≢true same)
same_space-equal Labels Tags same = absurd (false≢true same)

pub same_space-Decides : (space other : NameSpace) → (same_space space other ≡ true) ↔ (space ≡ other)
same_space-Decides space other = (
  same_space-equal space other,
  λ equal. ap (same_space space) (sym equal) ∙ same_space-refl space,
)

module _ {N : Type 0} (same : N → N → Bool) where
  -- the entry is the first one, whatever is said of its scope
  pub find_from-first : (here : Bool) (items : ScopeList N) (space : NameSpace) (name : N)
      → option_map (λ found. found.entry) (find_from same here items space name) ≡ first_of same (entries_of items) space name
  find_from-first here [] space name = refl
  find_from-first here (Opened ∷ items) space name = find_from-first false items space name
  find_from-first here (Binds entry ∷ items) space name =
      ap-if (option_map (λ (found : Found N). found.entry)) (is_of same space name entry) (Some (record { entry = entry; is_innermost = here })) (find_from same here items space name)
      ∙ ap (λ rest. if is_of same space name entry then Some entry else rest) (find_from-first here items space name)

  -- behind a mark nothing is the innermost scope's
  outer : (items : ScopeList N) (space : NameSpace) (name : N) → entry_here (find_from same false items space name) ≡ None
  outer [] space name = refl
  outer (Opened ∷ items) space name = outer items space name
  outer (Binds entry ∷ items) space name =
      ap-if entry_here (is_of same space name entry) (Some (record { entry = entry; is_innermost = false })) (find_from same false items space name)
      ∙ ap (λ rest. if is_of same space name entry then None else rest) (outer items space name)
      ∙ none-either (is_of same space name entry)
    where
      none-either : (choice : Bool) → ◌≡◌ {A = Option (Entry N)} (if choice then None else None) None
      none-either true = refl
      none-either false = refl

  pub find-innermost : (items : ScopeList N) (space : NameSpace) (name : N)
      → entry_here (find same items space name) ≡ first_of same (innermost items) space name
  find-innermost [] space name = refl
  find-innermost (Opened ∷ items) space name = outer items space name
  find-innermost (Binds entry ∷ items) space name =
      ap-if entry_here (is_of same space name entry) (Some (record { entry = entry; is_innermost = true })) (find_from same true items space name)
      ∙ ap (λ rest. if is_of same space name entry then Some entry else rest) (find-innermost items space name)

module _ {N M : Type 0} (same : N → N → Bool) (same_other : M → M → Bool) (renaming : N → M) (is_known : N → Bool)
    (agree : (name other : N) → is_known name ≡ true → is_known other ≡ true → same_other (renaming name) (renaming other) ≡ same name other) where
  find_from-renamed : (here : Bool) (items : ScopeList N) (space : NameSpace) (name : N) → all_named is_known items ≡ true → is_known name ≡ true
      → find_from same_other here (renamed renaming items) space (renaming name) ≡ option_map (renamed_found renaming) (find_from same here items space name)
  find_from-renamed here [] space name known this_known = refl
  find_from-renamed here (Opened ∷ items) space name known this_known = find_from-renamed false items space name known this_known
  find_from-renamed here (Binds entry ∷ items) space name known this_known =
      let one : Option (Found M) = Some (record { entry = renamed_entry renaming entry; is_innermost = here }) in
      let parts = and_parts (is_known entry.name) (all_named is_known items) known in
      ap (λ test. if same_space entry.space space && test then one else find_from same_other here (renamed renaming items) space (renaming name))
      (agree entry.name name parts.0 this_known)
      ∙ ap (λ rest. if is_of same space name entry then one else rest) (find_from-renamed here items space name parts.1 this_known)
      ∙ sym (ap-if (option_map (renamed_found renaming)) (is_of same space name entry) (Some (record { entry = entry; is_innermost = here })) (find_from same here items space name))

  pub find-renamed : (items : ScopeList N) (space : NameSpace) (name : N) → all_named is_known items ≡ true → is_known name ≡ true
      → find same_other (renamed renaming items) space (renaming name) ≡ option_map (renamed_found renaming) (find same items space name)
  find-renamed items space name known this_known = find_from-renamed true items space name known this_known
