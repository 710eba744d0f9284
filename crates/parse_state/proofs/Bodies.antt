-- Parameter lists are closed and bodies are opened alike by ids and by spellings.
use Rattle.std.proofs.Common.{◌≡◌, ℕ, Bool, true, false, ◌&&◌, not, List, [], ◌∷◌, ◌++◌, map, reverse, nat_eq, if◌then◌else◌, Option, Some, None, refl, sym, ap, ap₂, ◌∙◌}
use Rattle.std.specs.List.{list_all}
use Rattle.std.proofs.lemmas.Bool.{and_parts}
use Rattle.std.proofs.lemmas.List.{map-append}
use Rattle.std.proofs.lemmas.List.Folds.{list_all-append}
use Rattle.meaning_scopes.specs.Scopes.{Entry, ScopeList, Opened, Binds, innermost, is_open, with_entries, without_scope, renamed_entry}
use Rattle.meaning_scopes.specs.laws.Scopes.{all_named}
use Rattle.meaning_derivation.specs.State.{ClosedList}
use Rattle.meaning_derivation.specs.Scoping.{has_one_scope, entries_at, awaited_entries, parameters_closed, body_opened}
use Rattle.sparse_model.specs.declared.ids.NameId.{NameId}
use Rattle.c_tokens.specs.Seen.{text_of}
use Rattle.c_scope.specs.Seen.{entry_of}
use Rattle.parse_state.specs.declared.marks.ClosedParameters.{ClosedParameters}
use Rattle.parse_state.specs.Seen.{Read, closed_seen, closed_of, scopes_of, state_of}
use Rattle.parse_state.specs.Soundness.{is_known, has_known_entries}
use Rattle.parse_state.proofs.Stacks.{all-reverse, map-reverse}
use Rattle.parse_state.proofs.Naming.{is_open-renamed, without_scope-renamed}

-- one scope is open where none is without it
pub one_scope : {N : Type 0} (scopes : ScopeList N) → has_one_scope scopes ≡ (is_open scopes && not (is_open (without_scope scopes)))
one_scope [] = refl
one_scope (Opened ∷ scopes) = refl
one_scope (Binds entry ∷ scopes) = one_scope scopes

none_open : (others : Bool) → (others && false) ≡ false
none_open true = refl
none_open false = refl

module _ {N : Type 0} (scopes : ScopeList N) where
  pub no_scope : is_open scopes ≡ false → has_one_scope scopes ≡ false
  no_scope none = one_scope scopes ∙ ap (λ open_. open_ && not (is_open (without_scope scopes))) none

  pub more_scopes : is_open (without_scope scopes) ≡ true → has_one_scope scopes ≡ false
  more_scopes more = one_scope scopes ∙ ap (λ open_. is_open scopes && not open_) more ∙ none_open (is_open scopes)

  pub last_scope : is_open scopes ≡ true → is_open (without_scope scopes) ≡ false → has_one_scope scopes ≡ true
  last_scope some none = one_scope scopes ∙ ap₂ (λ one others. one && not others) some none

module _ (names : List (List ℕ)) where
  has_one_scope-renamed : (scopes : ScopeList NameId) → has_one_scope (scopes_of names scopes) ≡ has_one_scope scopes
  has_one_scope-renamed [] = refl
  has_one_scope-renamed (Opened ∷ scopes) = ap not (is_open-renamed names scopes)
  has_one_scope-renamed (Binds entry ∷ scopes) = has_one_scope-renamed scopes

  innermost-renamed : (scopes : ScopeList NameId) → innermost (scopes_of names scopes) ≡ map (renamed_entry (text_of names)) (innermost scopes)
  innermost-renamed [] = refl
  innermost-renamed (Opened ∷ scopes) = refl
  innermost-renamed (Binds entry ∷ scopes) = ap (λ rest. renamed_entry (text_of names) entry ∷ rest) (innermost-renamed scopes)

  with_entries-renamed : (scopes : ScopeList NameId) (entries : List (Entry NameId))
      → with_entries (scopes_of names scopes) (map (renamed_entry (text_of names)) entries) ≡ scopes_of names (with_entries scopes entries)
  with_entries-renamed scopes [] = refl
  with_entries-renamed scopes (entry ∷ entries) = with_entries-renamed (Binds entry ∷ scopes) entries

  either-renamed : (test : Bool) (first : List (Entry NameId)) (renamed_others : List (Entry (List ℕ))) (others : List (Entry NameId))
      → renamed_others ≡ map (renamed_entry (text_of names)) others
      → (if test then map (renamed_entry (text_of names)) first else renamed_others) ≡ map (renamed_entry (text_of names)) (if test then first else others)
  either-renamed true first renamed_others others is = refl
  either-renamed false first renamed_others others is = is

  entries_at-renamed : (lists : List (ClosedList NameId)) (token : ℕ)
      → entries_at (map (closed_of names) lists) token ≡ map (renamed_entry (text_of names)) (entries_at lists token)
  entries_at-renamed [] token = refl
  entries_at-renamed (list ∷ lists) token =
      either-renamed (nat_eq list.token token) list.entries (entries_at (map (closed_of names) lists) token) (entries_at lists token) (entries_at-renamed lists token)

  awaited_entries-renamed : (lists : List (ClosedList NameId)) (awaited : Option ℕ)
      → awaited_entries (map (closed_of names) lists) awaited ≡ map (renamed_entry (text_of names)) (awaited_entries lists awaited)
  awaited_entries-renamed lists None = refl
  awaited_entries-renamed lists (Some token) = entries_at-renamed lists token

  -- what a list bound, by its spellings
  kept-renamed : (scopes : ScopeList NameId) → reverse (innermost (scopes_of names scopes)) ≡ map (renamed_entry (text_of names)) (reverse (innermost scopes))
  kept-renamed scopes = ap reverse (innermost-renamed scopes) ∙ sym (map-reverse (renamed_entry (text_of names)) (innermost scopes))

  -- Known names

  pub known-innermost : (scopes : ScopeList NameId) → all_named (is_known names) scopes ≡ true → has_known_entries names (innermost scopes) ≡ true
  known-innermost [] known = refl
  known-innermost (Opened ∷ scopes) known = refl
  known-innermost (Binds entry ∷ scopes) known =
      let halves = and_parts (is_known names entry.name) (all_named (is_known names) scopes) known in
      ap₂ (λ (one rest : Bool). one && rest) halves.0 (known-innermost scopes halves.1)

  pub known-with : (scopes : ScopeList NameId) (entries : List (Entry NameId)) → all_named (is_known names) scopes ≡ true → has_known_entries names entries ≡ true
      → all_named (is_known names) (with_entries scopes entries) ≡ true
  known-with scopes [] known all = known
  known-with scopes (entry ∷ entries) known all =
      let halves = and_parts (is_known names entry.name) (has_known_entries names entries) all in
      known-with (Binds entry ∷ scopes) entries (ap₂ (λ (one rest : Bool). one && rest) halves.0 known) halves.1

  either-known : (test : Bool) (first others : List (Entry NameId)) → has_known_entries names first ≡ true → has_known_entries names others ≡ true
      → has_known_entries names (if test then first else others) ≡ true
  either-known true first others one rest = one
  either-known false first others one rest = rest

  known-at : (lists : List (ClosedList NameId)) (token : ℕ) → list_all (λ list. has_known_entries names list.entries) lists ≡ true → has_known_entries names (entries_at lists token) ≡ true
  known-at [] token known = refl
  known-at (list ∷ lists) token known =
      let halves = and_parts (has_known_entries names list.entries) (list_all (λ (one : ClosedList NameId). has_known_entries names one.entries) lists) known in
      either-known (nat_eq list.token token) list.entries (entries_at lists token) halves.0 (known-at lists token halves.1)

  pub known-awaited : (lists : List (ClosedList NameId)) (awaited : Option ℕ) → list_all (λ list. has_known_entries names list.entries) lists ≡ true
      → has_known_entries names (awaited_entries lists awaited) ≡ true
  known-awaited lists None known = refl
  known-awaited lists (Some token) known = known-at lists token known

  -- one more closed list, of what the innermost scope bound
  pub known-closed : (lists : List (ClosedList NameId)) (scopes : ScopeList NameId) (token : ℕ) → list_all (λ list. has_known_entries names list.entries) lists ≡ true
      → all_named (is_known names) scopes ≡ true
      → list_all (λ list. has_known_entries names list.entries) (lists ++ record { token = token; entries = reverse (innermost scopes) } ∷ []) ≡ true
  known-closed lists scopes token known bound =
      list_all-append (λ (list : ClosedList NameId). has_known_entries names list.entries) lists (record { token = token; entries = reverse (innermost scopes) } ∷ [])
      ∙ ap₂ (λ (front back : Bool). front && (back && true)) known (all-reverse (λ (entry : Entry NameId). is_known names entry.name) (innermost scopes) (known-innermost scopes bound))

-- one more closed list behind others
pub closed_more : (items after : List ClosedParameters) (one : ClosedParameters) (entries : List (Entry NameId)) → after ≡ items ++ one ∷ []
    → map entry_of one.bindings.items ≡ entries → map closed_seen after ≡ map closed_seen items ++ record { token = one.token; entries = entries } ∷ []
closed_more items after one entries is are =
    ap (map closed_seen) is ∙ map-append closed_seen items (one ∷ [])
    ∙ ap (λ (bound : List (Entry NameId)). map closed_seen items ++ record { token = one.token; entries = bound } ∷ []) are

-- Steps

-- the scope of a list is closed, in which others are open
pub closed_within : (read : Read) (token : ℕ) (left : ScopeList NameId) → has_one_scope read.scopes ≡ false → left ≡ without_scope read.scopes
    → state_of (record read { scopes = left }) ≡ parameters_closed (state_of read) token
closed_within read token left others is =
    ap (λ (scopes : ScopeList NameId). state_of (record read { scopes = scopes })) is
    ∙ ap₂ (λ (scopes : ScopeList (List ℕ)) (closed : List (ClosedList (List ℕ))). record (state_of read) { scopes = scopes; closed = closed })
    (sym (without_scope-renamed read.names read.scopes))
    (sym (ap (λ (test : Bool). if test then map (closed_of read.names) read.closed ++ record { token = token; entries = reverse (innermost (scopes_of read.names read.scopes)) } ∷ []
    else map (closed_of read.names) read.closed) (has_one_scope-renamed read.names read.scopes ∙ others)))

-- the scope of a list is closed that was the only one
pub closed_alone : (read : Read) (token : ℕ) (left : ScopeList NameId) (entries : List (Entry NameId)) → has_one_scope read.scopes ≡ true → left ≡ without_scope read.scopes
    → entries ≡ reverse (innermost read.scopes)
    → state_of (record read { scopes = left; closed = read.closed ++ record { token = token; entries = entries } ∷ [] }) ≡ parameters_closed (state_of read) token
closed_alone read token left entries alone is are =
    ap₂ (λ (scopes : ScopeList NameId) (bound : List (Entry NameId)). state_of (record read { scopes = scopes; closed = read.closed ++ record { token = token; entries = bound } ∷ [] })) is are
    ∙ ap₂ (λ (scopes : ScopeList (List ℕ)) (closed : List (ClosedList (List ℕ))). record (state_of read) { scopes = scopes; closed = closed })
    (sym (without_scope-renamed read.names read.scopes))
    (map-append (closed_of read.names) read.closed (record { token = token; entries = reverse (innermost read.scopes) } ∷ [])
    ∙ ap (λ (bound : List (Entry (List ℕ))). map (closed_of read.names) read.closed ++ record { token = token; entries = bound } ∷ []) (sym (kept-renamed read.names read.scopes))
    ∙ sym (ap (λ (test : Bool). if test then map (closed_of read.names) read.closed ++ record { token = token; entries = reverse (innermost (scopes_of read.names read.scopes)) } ∷ []
    else map (closed_of read.names) read.closed) (has_one_scope-renamed read.names read.scopes ∙ alone)))

-- a body is opened
pub opened_again : (read : Read) (left : ScopeList NameId) → left ≡ with_entries (Opened ∷ read.scopes) (awaited_entries read.closed read.awaited)
    → state_of (record read { scopes = left; awaited = None }) ≡ body_opened (state_of read)
opened_again read left is =
    ap (λ (scopes : ScopeList NameId). state_of (record read { scopes = scopes; awaited = None })) is
    ∙ ap (λ (scopes : ScopeList (List ℕ)). record (state_of read) { scopes = scopes; awaited = None })
    (sym (ap (with_entries (Opened ∷ scopes_of read.names read.scopes)) (awaited_entries-renamed read.names read.closed read.awaited)
    ∙ with_entries-renamed read.names (Opened ∷ read.scopes) (awaited_entries read.closed read.awaited)))
