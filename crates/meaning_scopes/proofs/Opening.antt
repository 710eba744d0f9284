-- Scopes that are opened, left and opened again.
use Rattle.std.proofs.Common.{◌≡◌, true, false, List, [], ◌∷◌, ◌++◌, reverse, refl, ap, ◌∙◌}
use Rattle.std.proofs.lemmas.Bool.{false≢true}
use Rattle.std.proofs.lemmas.List.{reverse-append}
use Rattle.meaning_scopes.specs.Scopes.{Entry, Opened, Binds, ScopeList, is_open, innermost, without_scope, with_entries}

module _ {N : Type 0} where
  -- entries go with the scope that they are bound in
  pub without_scope-entries : (items : ScopeList N) (entries : List (Entry N)) → without_scope (with_entries items entries) ≡ without_scope items
  without_scope-entries items [] = refl
  without_scope-entries items (entry ∷ entries) = without_scope-entries (Binds entry ∷ items) entries

  -- and leave it open
  pub is_open-entries : (items : ScopeList N) (entries : List (Entry N)) → is_open (with_entries items entries) ≡ is_open items
  is_open-entries items [] = refl
  is_open-entries items (entry ∷ entries) = is_open-entries (Binds entry ∷ items) entries

  -- entries are bound in their order
  pub with_entries-append : (items : ScopeList N) (entries more : List (Entry N)) → with_entries items (entries ++ more) ≡ with_entries (with_entries items entries) more
  with_entries-append items [] more = refl
  with_entries-append items (entry ∷ entries) more = with_entries-append (Binds entry ∷ items) entries more

  pub opens_again : (items : ScopeList N) → is_open items ≡ true → with_entries (Opened ∷ without_scope items) (reverse (innermost items)) ≡ items
  opens_again [] open_ = absurd (false≢true open_)
  opens_again (Opened ∷ items) open_ = refl
  opens_again (Binds entry ∷ items) open_ =
      let before : ScopeList N = Opened ∷ without_scope items in
      ap (with_entries before) (reverse-append (entry ∷ []) (innermost items))
      ∙ with_entries-append before (reverse (innermost items)) (entry ∷ [])
      ∙ ap (λ now. Binds entry ∷ now) (opens_again items open_)
