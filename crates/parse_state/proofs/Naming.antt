-- Names that are looked up by their ids are looked up by their spellings.
use Rattle.std.proofs.Common.{◌≡◌, ℕ, true, false, List, [], ◌∷◌, length, slice_get, unwrap_or, Option, Some, None, option_map, ⊎_elim, refl, sym, ap, ◌∙◌, arith}
use Rattle.std.specs.Str.{bytes_eq}
use Rattle.std.proofs.lemmas.Bool.{and_parts, cases_Bool, ltb-true, eqb-true, eq-eqb}
use Rattle.std.proofs.lemmas.Option.{slice_get_cases}
use Rattle.std.proofs.lemmas.Slice.Eq.{bytes_eq-Decides}
use Rattle.vocabulary.specs.declared.scope.NameSpace.{NameSpace}
use Rattle.vocabulary.specs.declared.scope.NameSpace.TheVariants.{Ordinary}
use Rattle.meaning_scopes.specs.Scopes.{ScopeList, Opened, Binds, Found, find, is_open, without_scope, renamed, renamed_found}
use Rattle.meaning_scopes.specs.Classes.{found_class, class_of_name}
use Rattle.meaning_scopes.specs.laws.Scopes.{all_named}
use Rattle.meaning_scopes.proofs.Finding.{find-renamed}
use Rattle.sparse_model.specs.declared.ids.NameId.{NameId}
use Rattle.c_tokens.specs.Seen.{text_of}
use Rattle.c_tokens.specs.Spellings.{AreApart}
use Rattle.c_scope.specs.Seen.{same_name, told_of}
use Rattle.meaning_derivation.specs.Scoping.{with_scopes}
use Rattle.parse_state.specs.Looking.{found_told}
use Rattle.parse_state.specs.Seen.{Read, state_of}
use Rattle.parse_state.specs.Soundness.{is_known}

module _ (names : List (List ℕ)) where
  -- a known id has a spelling
  has_spelling : (name : NameId) → is_known names name ≡ true → slice_get names name.0 ≡ Some (text_of names name)
  has_spelling name known =
      ⊎_elim
      (λ within. within.2 ∙ ap Some (sym (ap (λ found. unwrap_or found []) within.2)))
      (λ past. absurd (omega (arith, ltb-true name.0 (length names) known, past.0)))
      (slice_get_cases names name.0).1

  -- two known ids are one where their spellings are
  pub same_text : AreApart names → (name other : NameId) → is_known names name ≡ true → is_known names other ≡ true
      → bytes_eq (text_of names name) (text_of names other) ≡ same_name name other
  same_text apart name other known also =
      ⊎_elim
      (λ (equal : bytes_eq (text_of names name) (text_of names other) ≡ true).
      equal
      ∙ sym (eq-eqb name.0 other.0
      (apart name.0 other.0 (text_of names other)
      (has_spelling name known ∙ ap Some ((bytes_eq-Decides (text_of names name) (text_of names other)).0 equal)) (has_spelling other also))))
      (λ (unequal : bytes_eq (text_of names name) (text_of names other) ≡ false).
      ⊎_elim
      (λ (one : same_name name other ≡ true).
      absurd (cc (sym unequal ∙ (bytes_eq-Decides (text_of names name) (text_of names other)).1
      (ap (λ (id : ℕ). unwrap_or (slice_get names id) []) (eqb-true name.0 other.0 one)))))
      (λ (two : same_name name other ≡ false). unequal ∙ sym two)
      (cases_Bool (same_name name other)))
      (cases_Bool (bytes_eq (text_of names name) (text_of names other)))

  -- what is found by an id is found by its spelling
  pub find-spelled : AreApart names → (scopes : ScopeList NameId) (space : NameSpace) (name : NameId) → all_named (is_known names) scopes ≡ true → is_known names name ≡ true
      → find bytes_eq (renamed (text_of names) scopes) space (text_of names name) ≡ option_map (renamed_found (text_of names)) (find same_name scopes space name)
  find-spelled apart scopes space name known this_known =
      find-renamed same_name bytes_eq (text_of names) (is_known names) (λ one other first second. same_text apart one other first second) scopes space name known this_known

  found_class-renamed : (found : Option (Found NameId)) → found_class (option_map (renamed_found (text_of names)) found) ≡ found_class found
  found_class-renamed None = refl
  found_class-renamed (Some found) = refl

  pub class-spelled : AreApart names → (scopes : ScopeList NameId) (name : NameId) → all_named (is_known names) scopes ≡ true → is_known names name ≡ true
      → class_of_name bytes_eq (renamed (text_of names) scopes) (text_of names name) ≡ class_of_name same_name scopes name
  class-spelled apart scopes name known this_known =
      ap found_class (find-spelled apart scopes Ordinary name known this_known) ∙ found_class-renamed (find same_name scopes Ordinary name)

  -- what is told of what was found
  pub found_told-renamed : (found : Option (Found NameId)) → option_map found_told (option_map (renamed_found (text_of names)) found) ≡ option_map told_of found
  found_told-renamed None = refl
  found_told-renamed (Some found) = refl

  -- scopes are left and open alike

  pub is_open-renamed : (scopes : ScopeList NameId) → is_open (renamed (text_of names) scopes) ≡ is_open scopes
  is_open-renamed [] = refl
  is_open-renamed (Opened ∷ scopes) = refl
  is_open-renamed (Binds entry ∷ scopes) = is_open-renamed scopes

  pub without_scope-renamed : (scopes : ScopeList NameId) → without_scope (renamed (text_of names) scopes) ≡ renamed (text_of names) (without_scope scopes)
  without_scope-renamed [] = refl
  without_scope-renamed (Opened ∷ scopes) = refl
  without_scope-renamed (Binds entry ∷ scopes) = without_scope-renamed scopes

  pub all_named-without : (scopes : ScopeList NameId) → all_named (is_known names) scopes ≡ true → all_named (is_known names) (without_scope scopes) ≡ true
  all_named-without [] known = refl
  all_named-without (Opened ∷ scopes) known = known
  all_named-without (Binds entry ∷ scopes) known = all_named-without scopes (and_parts (is_known names entry.name) (all_named (is_known names) scopes) known).1

-- where no scope is open nothing is left behind the last one
pub without_scope-none : {N : Type 0} (scopes : ScopeList N) → is_open scopes ≡ false → without_scope scopes ≡ []
without_scope-none [] none = refl
without_scope-none (Opened ∷ scopes) none = absurd (cc none)
without_scope-none (Binds entry ∷ scopes) none = without_scope-none scopes none

-- the state with the scopes that are left
pub left_is : (read : Read) (left : ScopeList NameId) → left ≡ without_scope read.scopes
    → state_of (record read { scopes = left }) ≡ with_scopes (state_of read) (without_scope (state_of read).scopes)
left_is read left is =
    ap (λ (scopes : ScopeList NameId). state_of (record read { scopes = scopes })) is
    ∙ ap (λ (scopes : ScopeList (List ℕ)). with_scopes (state_of read) scopes) (sym (without_scope-renamed read.names read.scopes))
