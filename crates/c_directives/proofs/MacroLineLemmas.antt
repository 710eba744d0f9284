-- What a definition, and the end of one, do to the macros that names have.
use Rattle.std.proofs.Common.{◌≡◌, ◌≢◌, ℕ, Bool, true, false, not, nat_eq, List, [], ◌∷◌, Option, None, Some, Ok, Err, option_map, if◌then◌else◌, refl, sym, ap, subst, ◌∙◌, ⊎_elim, true≢false}
use Rattle.std.specs.Str.{bytes_eq}
use Rattle.std.specs.Cmp.{nat_eq_equiv}
use Rattle.std.proofs.lemmas.Bool.{cases_Bool}
use Rattle.std.proofs.lemmas.Bool.Decides.{eqb_tells}
use Rattle.std.proofs.lemmas.Option.{same_Some, none-some}
use Rattle.std.proofs.lemmas.Slice.Eq.{bytes_eq-Decides}
use Rattle.vocabulary.specs.declared.error_kind.ErrorKind.TheVariants.{MacroRedefined, MalformedDirective}
use Rattle.meaning_text.specs.Tokens.{Tok}
use Rattle.meaning_macros.specs.Agreement.{agree}
use Rattle.meaning_macros.specs.Signs.{is_identifier_kind}
use Rattle.meaning_macros.specs.Macros as macros
use Rattle.meaning_macros.specs.Macros.{Definition}
use Rattle.meaning_preprocessing.specs.DefinitionLines.{definition_behind, defined_beside, without_definition}
use Rattle.meaning_preprocessing.specs.Directives.{define_turn, definition_turn, table_turn, undef_turn}
use Rattle.meaning_preprocessing.specs.Groups.{Group, Turn, Turns, Halts}
use Rattle.meaning_preprocessing.specs.State.{UnitState, refused}
use Rattle.sparse_model.specs.declared.ids.NameId.{NameId}
use Rattle.c_tokens.specs.Spellings.{AreApart}
use Rattle.c_tokens.specs.Seen.{IsKnown, text_of}
use Rattle.c_macros.specs.declared.definition.Macro.{Macro}
use Rattle.c_macros.specs.Redefinition.{defined_as, redefines}
use Rattle.c_macros.specs.Seen.{IsKnownMacro, by_ids, macro_of}
use Rattle.c_macros.specs.Table.{Table, macro_at}
use Rattle.c_directives.specs.Conditions.{AreNamed, HasMacros, name_alone}
use Rattle.c_directives.proofs.BodyLemmas.{equal-known}

-- two ids are one, or they aren't
by_id : {A : Type 0} → (i j : NameId) → (i ≡ j → A) → (nat_eq i.0 j.0 ≡ false → i ≢ j → A) → A
by_id i j same other = ⊎_elim (λ s. same (λ k. record { 0 = s.1 k })) (λ o. other o.0 (λ equal. o.1 (ap (λ (id : NameId). id.0) equal))) (eqb_tells i.0 j.0)

-- Names without a macro

without-none : (name : List ℕ) (definitions : List Definition) → macros.macro_of (without_definition name definitions) name ≡ None
without-none name [] = refl
without-none name (d ∷ ds) = by (without-none name ds) (bytes_eq d.name name) refl
  where
    by : macros.macro_of (without_definition name ds) name ≡ None → (same : Bool) → bytes_eq d.name name ≡ same
        → macros.macro_of (if not same then d ∷ without_definition name ds else without_definition name ds) name ≡ None
    by later true is = later
    by later false is = ap (λ b. if b then Some d.macro else macros.macro_of (without_definition name ds) name) is ∙ later

unequal : (first name text : List ℕ) → bytes_eq first name ≡ true → bytes_eq text name ≡ false → bytes_eq first text ≡ false
unequal first name text same differ = ⊎_elim
    (λ equal. absurd (true≢false (sym ((bytes_eq-Decides text name).1 (sym ((bytes_eq-Decides first text).0 equal) ∙ (bytes_eq-Decides first name).0 same)) ∙ differ)))
    (λ other. other)
    (cases_Bool (bytes_eq first text))

-- what is left is named as before
without-named : (names : List (List ℕ)) (name : List ℕ) (definitions : List Definition) → AreNamed names definitions → AreNamed names (without_definition name definitions)
without-named names name [] named = tt
without-named names name (d ∷ ds) named = by (bytes_eq d.name name) (without-named names name ds named.1)
  where
    by : (same : Bool) → AreNamed names (without_definition name ds) → AreNamed names (if not same then d ∷ without_definition name ds else without_definition name ds)
    by true later = later
    by false later = (named.0, later)

without-other : (name text : List ℕ) (definitions : List Definition) → bytes_eq text name ≡ false → macros.macro_of (without_definition name definitions) text ≡ macros.macro_of definitions text
without-other name text [] differ = refl
without-other name text (d ∷ ds) differ = by (without-other name text ds differ) (bytes_eq d.name name) refl
  where
    by : macros.macro_of (without_definition name ds) text ≡ macros.macro_of ds text → (same : Bool) → bytes_eq d.name name ≡ same
        → macros.macro_of (if not same then d ∷ without_definition name ds else without_definition name ds) text ≡ (if bytes_eq d.name text then Some d.macro else macros.macro_of ds text)
    by later true is = later ∙ ap (λ b. if b then Some d.macro else macros.macro_of ds text) (sym (unequal d.name name text is differ))
    by later false is = ap (λ found. if bytes_eq d.name text then Some d.macro else found) later

-- a line of one name drops its macro
undef-by : (hash : Tok) (ts : List Tok) (groups : List Group) (s : UnitState) (name : List ℕ) → name_alone ts ≡ Some name
    → undef_turn hash ts groups s ≡ Turns groups (record s { definitions = without_definition name s.definitions })
undef-by hash [] groups s name found = absurd (none-some name found)
undef-by hash (t ∷ u ∷ ts) groups s name found = absurd (none-some name found)
undef-by hash (t ∷ []) groups s name found = by (is_identifier_kind t.kind) found
  where
    by : (names_it : Bool) → (if names_it then Some t.text else None) ≡ Some name →
        (elim names_it as (λ _. Turn) [
          | true ↦ Turns groups (record s { definitions = without_definition t.text s.definitions })
          | false ↦ Halts (refused s MalformedDirective hash.at [])
        ])
        ≡ Turns groups (record s { definitions = without_definition name s.definitions })
    by true is = ap (λ text. Turns groups (record s { definitions = without_definition text s.definitions })) (same_Some _ _ is)
    by false is = absurd (none-some name is)

module _ (names : List (List ℕ)) (apart : AreApart names) where
  undefined-has : (definitions : List Definition) (old new : Table) (name : NameId) → IsKnown names name → HasMacros names definitions old → macro_at new name ≡ None
      → ((other : NameId) → other ≢ name → macro_at new other ≡ macro_at old other) → HasMacros names (without_definition (text_of names name) definitions) new
  undefined-has definitions old new name known has dropped others =
      record {
        found = λ other here. by_id other name
            (λ same. ap (λ id. macros.macro_of (without_definition (text_of names name) definitions) (text_of names id)) same ∙ without-none (text_of names name) definitions
            ∙ sym (ap (option_map (macro_of names)) (ap (macro_at new) same ∙ dropped)))
            (λ unlike differ. without-other (text_of names name) (text_of names other) definitions (equal-known names apart other name here known ∙ unlike) ∙ has.found other here
            ∙ ap (option_map (macro_of names)) (sym (others other differ)));
        known = λ other m at. by_id other name
            (λ same. absurd (none-some m (sym (ap (macro_at new) same ∙ dropped) ∙ at)))
            (λ unlike differ. has.known other m (sym (others other differ) ∙ at));
        named = without-named names (text_of names name) definitions has.named;
      }

  pub undefined : (hash : Tok) (ts : List Tok) (groups : List Group) (s : UnitState) (old new : Table) (name : NameId) → Some (text_of names name) ≡ name_alone ts → IsKnown names name
      → HasMacros names s.definitions old → macro_at new name ≡ None → ((other : NameId) → other ≢ name → macro_at new other ≡ macro_at old other)
      → (definitions : List Definition) × (undef_turn hash ts groups s ≡ Turns groups (record s { definitions = definitions })) × HasMacros names definitions new
  undefined hash ts groups s old new name found known has dropped others =
      (without_definition (text_of names name) s.definitions, undef-by hash ts groups s (text_of names name) (sym found), undefined-has s.definitions old new name known has dropped others)

  -- Definitions

  abbrev defined : NameId → Macro → Definition
  defined name m = record { name = text_of names name; macro = macro_of names m }

  -- ids say whether two macros agree
  abbrev pub Agreement : Type 0
  Agreement = (m n : Macro) → IsKnownMacro names m → IsKnownMacro names n → agree (macro_of names m) (macro_of names n) ≡ agree (by_ids m) (by_ids n)

  define-by : (hash : Tok) (ts : List Tok) (groups : List Group) (s : UnitState) (name : NameId) (m : Macro) (old : Option macros.Macro) → definition_behind ts ≡ Ok (defined name m) → macros.macro_of s.definitions (text_of names name) ≡ old
      → define_turn hash ts groups s ≡ table_turn hash (defined name m) (defined_beside (defined name m) old s.definitions) groups s
  define-by hash ts groups s name m old is had =
      ap (λ found. definition_turn hash found groups s) is ∙ ap (λ found. table_turn hash (defined name m) (defined_beside (defined name m) found s.definitions) groups s) had

  pub new-has : (definitions : List Definition) (old new : Table) (name : NameId) (m : Macro) → IsKnown names name → IsKnownMacro names m → HasMacros names definitions old → macro_at new name ≡ Some m
      → ((other : NameId) → other ≢ name → macro_at new other ≡ macro_at old other) → HasMacros names (defined name m ∷ definitions) new
  new-has definitions old new name m stands_there known_macro has stands others =
      record {
        found = λ other here. by_id other name
            (λ same. ap (λ b. if b then Some (macro_of names m) else macros.macro_of definitions (text_of names other)) ((bytes_eq-Decides _ _).1 (ap (text_of names) (sym same)))
            ∙ sym (ap (option_map (macro_of names)) (ap (macro_at new) same ∙ stands)))
            (λ unlike differ. ap (λ b. if b then Some (macro_of names m) else macros.macro_of definitions (text_of names other)) (equal-known names apart name other stands_there here ∙ nat_eq_equiv.symm name.0 other.0 ∙ unlike)
            ∙ has.found other here ∙ ap (option_map (macro_of names)) (sym (others other differ)));
        known = λ other n at. by_id other name
            (λ same. subst (IsKnownMacro names) (same_Some _ _ (sym stands ∙ ap (macro_at new) (sym same) ∙ at)) known_macro)
            (λ unlike differ. has.known other n (sym (others other differ) ∙ at));
        named = ((name, stands_there, refl), has.named);
      }

  kept-has : (definitions : List Definition) (old new : Table) (name : NameId) → HasMacros names definitions old → macro_at new name ≡ macro_at old name
      → ((other : NameId) → other ≢ name → macro_at new other ≡ macro_at old other) → HasMacros names definitions new
  kept-has definitions old new name has stands others =
      let all : (other : NameId) → macro_at new other ≡ macro_at old other =
      λ other. by_id other name (λ same. ap (macro_at new) same ∙ stands ∙ ap (macro_at old) (sym same)) (λ unlike differ. others other differ) in
      record {
        found = λ other here. has.found other here ∙ ap (option_map (macro_of names)) (sym (all other));
        known = λ other n at. has.known other n (sym (all other) ∙ at);
        named = has.named;
      }

  -- a definition that is new, or no other one
  pub macro_defined : (hash : Tok) (ts : List Tok) (groups : List Group) (s : UnitState) (old new : Table) (name : NameId) (m : Macro) → definition_behind ts ≡ Ok (defined name m) → IsKnown names name → IsKnownMacro names m
      → Agreement → HasMacros names s.definitions old → macro_at new name ≡ Some (defined_as (macro_at old name) m) → (redefines (macro_at old name) m ≡ true → ⊥)
      → ((other : NameId) → other ≢ name → macro_at new other ≡ macro_at old other)
      → (definitions : List Definition) × (define_turn hash ts groups s ≡ Turns groups (record s { definitions = definitions })) × HasMacros names definitions new
  macro_defined hash ts groups s old new name m is known known_macro agreement has stands no_other others = by (macro_at old name) refl
    where
      by : (found : Option Macro) → macro_at old name ≡ found
          → (definitions : List Definition) × (define_turn hash ts groups s ≡ Turns groups (record s { definitions = definitions })) × HasMacros names definitions new
      by None at = (
        defined name m ∷ s.definitions,
        define-by hash ts groups s name m None is (has.found name known ∙ ap (option_map (macro_of names)) at),
        new-has s.definitions old new name m known known_macro has (stands ∙ ap (λ found. Some (defined_as found m)) at) others,
      )
      by (Some n) at =
          let agrees : agree (macro_of names n) (macro_of names m) ≡ true =
          agreement n m (has.known name n at) known_macro ∙ ⊎_elim (λ yes_. yes_) (λ no_. absurd (no_other (ap (λ found. redefines found m) at ∙ ap not no_))) (cases_Bool (agree (by_ids n) (by_ids m))) in (
            s.definitions,
            define-by hash ts groups s name m (Some (macro_of names n)) is (has.found name known ∙ ap (option_map (macro_of names)) at)
                ∙ ap (λ b. table_turn hash (defined name m) (if b then Ok s.definitions else Err MacroRedefined) groups s) agrees,
            kept-has s.definitions old new name has (stands ∙ ap (λ found. Some (defined_as found m)) at ∙ sym at) others,
          )

  -- another definition
  pub macro_redefined : (hash : Tok) (ts : List Tok) (groups : List Group) (s : UnitState) (old : Table) (name : NameId) (m : Macro) → definition_behind ts ≡ Ok (defined name m) → IsKnown names name → IsKnownMacro names m
      → Agreement → HasMacros names s.definitions old → redefines (macro_at old name) m ≡ true
      → define_turn hash ts groups s ≡ Halts (refused s MacroRedefined hash.at (text_of names name))
  macro_redefined hash ts groups s old name m is known known_macro agreement has other = by (macro_at old name) refl
    where
      by : (found : Option Macro) → macro_at old name ≡ found → define_turn hash ts groups s ≡ Halts (refused s MacroRedefined hash.at (text_of names name))
      by None at = absurd (true≢false (sym other ∙ ap (λ found. redefines found m) at))
      by (Some n) at =
          let differs : agree (macro_of names n) (macro_of names m) ≡ false =
          agreement n m (has.known name n at) known_macro
          ∙ ⊎_elim (λ yes_. absurd (true≢false (sym other ∙ ap (λ found. redefines found m) at ∙ ap not yes_))) (λ no_. no_) (cases_Bool (agree (by_ids n) (by_ids m))) in
          define-by hash ts groups s name m (Some (macro_of names n)) is (has.found name known ∙ ap (option_map (macro_of names)) at)
          ∙ ap (λ b. table_turn hash (defined name m) (if b then Ok s.definitions else Err MacroRedefined) groups s) differs
