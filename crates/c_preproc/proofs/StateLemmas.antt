-- What stays so of a state where the table of names grows, and where a part of the state changes.
use Rattle.std.proofs.Common.{◌≡◌, ◌<◌, ◌≤◌, ◌+◌, ◌^◌, ℕ, zero, suc, Bool, true, false, cond, nat_eq, nat_lt, List, [], ◌∷◌, ◌++◌, length, map, slice_get, slice_index_or, All, Option, Some, None, option_map, unwrap_or, codes, if◌then◌else◌, ◌⊎◌, inl, inr, refl, sym, ap, subst, ◌∙◌, ⊎_elim, true≢false, arith, eq-eqb}
use Rattle.std.specs.Global.{Vec}
use Rattle.std.specs.List.{filter}
use Rattle.std.specs.Str.{bytes_eq}
use Rattle.std.specs.Map.{lookup}
use Rattle.std.proofs.lemmas.Bool.{cases_Bool, cases_lt, ltb-false, ltb-true, ne_eqb}
use Rattle.std.proofs.lemmas.List.{map-append}
use Rattle.std.proofs.lemmas.List.Elements.{All-append, All-filter, All-head, All-tail, All-weaker}
use Rattle.std.proofs.lemmas.Option.{slice_get-map, slice_get_past, slice_get_read}
use Rattle.std.proofs.lemmas.Slice.Eq.{bytes_eq-Decides}
use Rattle.meaning_text.specs.Tokens.{Tok}
use Rattle.meaning_macros.specs.Macros as macros
use Rattle.meaning_macros.specs.Macros.{Definition, spelled_file}
use Rattle.meaning_macros.specs.Expansion.{expansion}
use Rattle.meaning_macros.specs.Hiding.{hides_nothing}
use Rattle.meaning_macros.specs.laws.Expansion.{HaveSameMacros}
use Rattle.meaning_macros.proofs.TableLemmas.{expansion-table}
use Rattle.meaning_preprocessing.specs.ConditionLines.{is_identifier_token, with_undefined}
use Rattle.meaning_preprocessing.specs.State.{UnitState, path_of, spelled_path, spelled_paths, table_in}
use Rattle.meaning_preprocessing.specs.Unit.{unit_limits}
use Rattle.sparse_model.specs.declared.ids.NameId.{NameId}
use Rattle.c_tokens.specs.declared.token.Token.{Token}
use Rattle.c_tokens.specs.Spellings.{AreApart}
use Rattle.c_tokens.specs.Seen.{Extends, IsKnown, text_of, tok_of, toks_of}
use Rattle.c_tokens.proofs.SeenLemmas.{IsKnown-Extends, text_of-Extends, toks_of-Extends}
use Rattle.c_macros.specs.declared.budget.Budget.{Budget}
use Rattle.c_macros.specs.declared.definition.Macro.{Macro}
use Rattle.c_macros.specs.Ends.{budget_by}
use Rattle.c_macros.specs.Expanded.{expanded_of}
use Rattle.c_macros.specs.Seen.{KnowsAll}
use Rattle.c_macros.specs.Parameters.{params_in}
use Rattle.c_macros.specs.Seen.{IsKnownMacro, macro_of, params_by, table_of}
use Rattle.c_macros.specs.Table.{Table, macro_at, spelling_of_file}
use Rattle.c_macros.proofs.KnowsLemmas.{All-named, KnowsAll-Extends, macro-Extends}
use Rattle.c_macros.proofs.PredefinedLemmas.{spelled-found}
use Rattle.c_macros.proofs.ReadingLemmas.{found-known}
use Rattle.c_directives.specs.Conditions.{AreKnown, AreNamed, HasMacros, is_left_identifier}
use Rattle.c_directives.specs.Made.{AreMadeWords}
use Rattle.c_directives.specs.declared.made.MadeWords.{MadeWords}
use Rattle.c_directives.proofs.BodyLemmas.{equal-known}
use Rattle.c_preproc.specs.States.{HasFiles, Holds, put_of}
use Rattle.c_preproc.specs.declared.state.State.{State}

-- Where the table of names grows

module _ (names later : List (List ℕ)) (more : Extends names later) where
  pub texts-later : (ids : List NameId) → All (IsKnown names) ids → map (text_of later) ids ≡ map (text_of names) ids
  texts-later [] known = refl
  texts-later (id ∷ ids) known = λ i.
      text_of-Extends names later more id (All-head (IsKnown names) id ids known) i ∷ texts-later ids (All-tail (IsKnown names) id ids known) i

  params-later : (params : Option (List NameId)) → All (IsKnown names) (params_in params) → params_by (text_of later) params ≡ params_by (text_of names) params
  params-later None known = refl
  params-later (Some ids) known = ap Some (texts-later ids known)

  macro-later : (m : Macro) → IsKnownMacro names m → macro_of later m ≡ macro_of names m
  macro-later m known = λ i. record {
    parameters = params-later m.params known.params i;
    variadic = m.variadic;
    body = toks_of-Extends names later more m.body known.body i;
  }

  pub known-later : (tokens : List Token) → AreKnown names tokens → AreKnown later tokens
  known-later tokens known = All-weaker (λ (t : Token). IsKnown names t.name) (λ (t : Token). IsKnown later t.name) (λ t. IsKnown-Extends names later more t.name) tokens known

  named-later : (definitions : List Definition) → AreNamed names definitions → AreNamed later definitions
  named-later [] named = tt
  named-later (d ∷ ds) named =
      ((named.0.0, IsKnown-Extends names later more named.0.0 named.0.1, text_of-Extends names later more named.0.0 named.0.1 ∙ named.0.2), named-later ds named.1)

  pub made-later : (made : MadeWords) → AreMadeWords names made → AreMadeWords later made
  made-later made are = record {
    rest_known = IsKnown-Extends names later more made.rest are.rest_known;
    rest = text_of-Extends names later more made.rest are.rest_known ∙ are.rest;
    zero_known = IsKnown-Extends names later more made.zero are.zero_known;
    zero = text_of-Extends names later more made.zero are.zero_known ∙ are.zero;
    one_known = IsKnown-Extends names later more made.one are.one_known;
    one = text_of-Extends names later more made.one are.one_known ∙ are.one;
  }

  module _ (apart : AreApart later) where
    -- a spelling that is new names nothing
    new-none : (name : NameId) → IsKnown later name → length names ≤ name.0 → (definitions : List Definition) → AreNamed names definitions → macros.macro_of definitions (text_of later name) ≡ None
    new-none name here above [] named = refl
    new-none name here above (d ∷ ds) named =
        let id = named.0.0 in
        let other : bytes_eq d.name (text_of later name) ≡ false =
        ap (λ text. bytes_eq text (text_of later name)) (sym (text_of-Extends names later more id named.0.1 ∙ named.0.2))
        ∙ equal-known later apart id name (IsKnown-Extends names later more id named.0.1) here
        ∙ ne_eqb id.0 name.0 (λ same. omega (arith, same, above, named.0.1)) in
        ap (λ b. if b then Some d.macro else macros.macro_of ds (text_of later name)) other ∙ new-none name here above ds named.1

    pub has-later : (definitions : List Definition) (table : Table) → KnowsAll names table → HasMacros names definitions table → HasMacros later definitions table
    has-later definitions table knows has = record {
      found = λ name here. ⊎_elim (old name) (new name here) (cases_lt name.0 (length names));
      known = λ name m at. macro-Extends names later more m (has.known name m at);
      named = named-later definitions has.named;
    }
      where
        seen : (name : NameId) (at : Option Macro) → macro_at table name ≡ at → option_map (macro_of names) at ≡ option_map (macro_of later) at
        seen name None is = refl
        seen name (Some m) is = ap Some (sym (macro-later m (has.known name m is)))

        old : (name : NameId) → name.0 < length names → macros.macro_of definitions (text_of later name) ≡ option_map (macro_of later) (macro_at table name)
        old name below = ap (macros.macro_of definitions) (text_of-Extends names later more name below) ∙ has.found name below ∙ seen name (macro_at table name) refl

        none_there : (name : NameId) → length names ≤ name.0 → (at : Option Macro) → macro_at table name ≡ at → None ≡ option_map (macro_of later) at
        none_there name above None is = refl
        none_there name above (Some m) is = let below = knows.named name m is in absurd (omega (arith, below, above))

        new : (name : NameId) → IsKnown later name → length names ≤ name.0 → macros.macro_of definitions (text_of later name) ≡ option_map (macro_of later) (macro_at table name)
        new name here above = new-none name here above definitions has.named ∙ none_there name above (macro_at table name) refl

    files-later : (paths : List (List ℕ)) (table : Table) → KnowsAll names table → HasFiles names paths table → HasFiles later paths table
    files-later paths table knows has file = by (spelling_of_file table file) refl ∙ has file
      where
        by : (found : Option NameId) → spelling_of_file table file ≡ found → option_map (text_of later) found ≡ option_map (text_of names) found
        by None is = refl
        by (Some spelled) is = ap Some (text_of-Extends names later more spelled (knows.files file spelled is))

    pub Holds-later : (path : List ℕ) (state : State) (s : UnitState) → Holds names path state s → Holds later path state s
    Holds-later path state s holds = record {
      made = made-later state.made holds.made;
      macros = has-later s.definitions state.macros holds.knows holds.macros;
      knows = KnowsAll-Extends names later state.macros more holds.knows;
      files = files-later s.paths state.macros holds.knows holds.files;
      budget = holds.budget;
      sum = holds.sum;
      bytes = holds.bytes;
      paths = texts-later state.paths.items holds.paths_known ∙ holds.paths;
      paths_known = All-weaker (IsKnown names) (IsKnown later) (IsKnown-Extends names later more) state.paths.items holds.paths_known;
      main = holds.main;
      undefined = toks_of-Extends names later more state.undefined.items holds.undefined_known ∙ holds.undefined;
      undefined_known = known-later state.undefined.items holds.undefined_known;
      few = holds.few;
      tokens_known = known-later state.tokens.items holds.tokens_known;
    }

  -- what was put is read as before
  pub put-later : (path : List ℕ) (state : State) (s : UnitState) → Holds names path state s → put_of later state ≡ put_of names state
  put-later path state s holds = toks_of-Extends names later more state.tokens.items holds.tokens_known

-- the tokens that were put before a directive stay
pub put-same : (mid later : List (List ℕ)) → Extends mid later → (path : List ℕ) (old new : State) (s : UnitState) → Holds mid path old s → new.tokens ≡ old.tokens → put_of later new ≡ put_of mid old
put-same mid later more path old new s holds same = ap (λ (put : Vec Token). toks_of later put.items) same ∙ put-later mid later more path old s holds

-- What a table says of each text

abbrev IsSpelledNowhere : List (List ℕ) → List ℕ → Type 0
IsSpelledNowhere names text = (k : ℕ) → k < length names → unwrap_or (slice_get names k) [] ≡ text → ⊥

-- a text is the spelling of an id, or of none
spelled-or : (names : List (List ℕ)) (text : List ℕ) → ((k : ℕ) × (k < length names) × (unwrap_or (slice_get names k) [] ≡ text)) ⊎ IsSpelledNowhere names text
spelled-or [] text = inr (λ k below is. absurd (omega (arith, below)))
spelled-or (first ∷ names) text = ⊎_elim
    (λ same. inl (0, omega arith, (bytes_eq-Decides first text).0 same))
    (λ differ. ⊎_elim
    (λ found. inl (suc found.0, omega (arith, found.1), found.2))
    (λ none. inr (by (λ same. true≢false (sym ((bytes_eq-Decides first text).1 same) ∙ differ)) none))
    (spelled-or names text))
    (cases_Bool (bytes_eq first text))
  where
    by : (first ≡ text → ⊥) → IsSpelledNowhere names text → IsSpelledNowhere (first ∷ names) text
    by differ none zero below is = differ is
    by differ none (suc k) below is = none k (omega (arith, below)) is

nowhere-none : (names : List (List ℕ)) (text : List ℕ) → IsSpelledNowhere names text → (definitions : List Definition) → AreNamed names definitions → macros.macro_of definitions text ≡ None
nowhere-none names text none [] named = refl
nowhere-none names text none (d ∷ ds) named = by (nowhere-none names text none ds named.1) (bytes_eq d.name text) refl
  where
    by : macros.macro_of ds text ≡ None → (same : Bool) → bytes_eq d.name text ≡ same → (if same then Some d.macro else macros.macro_of ds text) ≡ None
    by later true is = absurd (none named.0.0.0 named.0.1 (named.0.2 ∙ (bytes_eq-Decides d.name text).0 is))
    by later false is = later

entries-named : (names : List (List ℕ)) (entries : List (NameId × Macro)) → All (λ (entry : NameId × Macro). IsKnown names entry.0) entries
    → AreNamed names (map (λ (entry : NameId × Macro). record { name = text_of names entry.0; macro = macro_of names entry.1 }) entries)
entries-named names [] known = tt
entries-named names (entry ∷ entries) known =
    let P = λ (e : NameId × Macro). IsKnown names e.0 in
    ((entry.0, All-head P entry entries known, refl), entries-named names entries (All-tail P entry entries known))

spelled-path : (number : ℕ) (paths : List (List ℕ)) (k : ℕ) → spelled_file (spelled_paths number paths) (number + k) ≡ unwrap_or (slice_get (map spelled_path paths) k) (codes "\"\"")
spelled-path number [] k = refl
spelled-path number (path ∷ paths) zero = ap (λ b. if b then spelled_path path else spelled_file (spelled_paths (number + 1) paths) (number + zero)) (eq-eqb number (number + zero) (omega arith))
spelled-path number (path ∷ paths) (suc k) =
    let next : number + suc k ≡ number + 1 + k = omega arith in
    ap (λ b. if b then spelled_path path else spelled_file (spelled_paths (number + 1) paths) (number + suc k)) (ne_eqb number (number + suc k) (λ same. omega (arith, same)))
    ∙ ap (spelled_file (spelled_paths (number + 1) paths)) next ∙ spelled-path (number + 1) paths k

module _ (names : List (List ℕ)) (apart : AreApart names) (path : List ℕ) (state : State) (s : UnitState) (holds : Holds names path state s) where
  same-macros : HaveSameMacros (table_of names state.macros) (table_in s)
  same-macros = record {
    macros = λ text. ⊎_elim (spelled text) (nowhere text) (spelled-or names text);
    files = λ file.
        let shown : file ≡ 0 + file = omega arith in
        spelled-found (text_of names) state.macros.files file ∙ ap (λ (found : Option (List ℕ)). unwrap_or found (codes "\"\"")) (holds.files file)
        ∙ sym (ap (spelled_file (spelled_paths 0 (path_of s.paths 0 ∷ s.paths))) shown ∙ spelled-path 0 (path_of s.paths 0 ∷ s.paths) file);
  }
    where
      known : All (λ (entry : NameId × Macro). IsKnown names entry.0) state.macros.macros
      known = All-named (IsKnown names) state.macros.macros holds.knows.named

      spelled : (text : List ℕ) → (k : ℕ) × (k < length names) × (unwrap_or (slice_get names k) [] ≡ text) → macros.macro_of (table_of names state.macros).definitions text ≡ macros.macro_of s.definitions text
      spelled text at =
          let id : NameId = record { 0 = at.0 } in
          ap (macros.macro_of (table_of names state.macros).definitions) (sym at.2) ∙ found-known names apart state.macros.macros id known at.1
          ∙ sym (holds.macros.found id at.1) ∙ ap (macros.macro_of s.definitions) at.2

      nowhere : (text : List ℕ) → IsSpelledNowhere names text → macros.macro_of (table_of names state.macros).definitions text ≡ macros.macro_of s.definitions text
      nowhere text none = nowhere-none names text none (table_of names state.macros).definitions (entries-named names state.macros.macros known) ∙ sym (nowhere-none names text none s.definitions holds.macros.named)

  -- what the code expands is what the definition expands
  pub expanded-is : (tokens : List Token) → expanded_of names state.macros state.budget tokens ≡ expansion (table_in s) s.budget (map hides_nothing (toks_of names tokens))
  expanded-is tokens =
      expansion-table (table_of names state.macros) (table_in s) same-macros (budget_by state.budget) (map hides_nothing (toks_of names tokens))
      ∙ ap (λ b. expansion (table_in s) b (map hides_nothing (toks_of names tokens))) holds.budget

-- Where a part of the state changes

pub with-budget : (names : List (List ℕ)) (path : List ℕ) (state : State) (s : UnitState) (left : Budget) → left.counter + left.replacements < 2 ^ 32 → Holds names path state s
    → Holds names path (record state { budget = left }) (record s { budget = budget_by left })
with-budget names path state s left sum holds = record {
  made = holds.made;
  macros = holds.macros;
  knows = holds.knows;
  files = holds.files;
  budget = refl;
  sum = sum;
  bytes = holds.bytes;
  paths = holds.paths;
  paths_known = holds.paths_known;
  main = holds.main;
  undefined = holds.undefined;
  undefined_known = holds.undefined_known;
  few = holds.few;
  tokens_known = holds.tokens_known;
}

pub with-identifiers : (names : List (List ℕ)) (path : List ℕ) (state : State) (s : UnitState) (all : Vec Token) (tokens : List Token) → toks_of names all.items ≡ toks_of names state.undefined.items ++ filter is_identifier_token (toks_of names tokens) → AreKnown names all.items
    → Holds names path state s → Holds names path (record state { undefined = all }) (with_undefined (toks_of names tokens) s)
with-identifiers names path state s all tokens are known holds = record {
  made = holds.made;
  macros = holds.macros;
  knows = holds.knows;
  files = holds.files;
  budget = holds.budget;
  sum = holds.sum;
  bytes = holds.bytes;
  paths = holds.paths;
  paths_known = holds.paths_known;
  main = holds.main;
  undefined = are ∙ ap (λ before. before ++ filter is_identifier_token (toks_of names tokens)) holds.undefined;
  undefined_known = known;
  few = holds.few;
  tokens_known = holds.tokens_known;
}

pub with-bytes : (names : List (List ℕ)) (path : List ℕ) (state : State) (s : UnitState) (count : ℕ) → Holds names path state s
    → Holds names path (record state { bytes = state.bytes + count }) (record s { bytes = s.bytes + count })
with-bytes names path state s count holds = record {
  made = holds.made;
  macros = holds.macros;
  knows = holds.knows;
  files = holds.files;
  budget = holds.budget;
  sum = holds.sum;
  bytes = ap (λ n. n + count) holds.bytes;
  paths = holds.paths;
  paths_known = holds.paths_known;
  main = holds.main;
  undefined = holds.undefined;
  undefined_known = holds.undefined_known;
  few = holds.few;
  tokens_known = holds.tokens_known;
}

pub with-macros : (names : List (List ℕ)) (path : List ℕ) (state : State) (s : UnitState) (table : Table) (definitions : List Definition) → HasMacros names definitions table → KnowsAll names table → table.files ≡ state.macros.files → Holds names path state s
    → Holds names path (record state { macros = table }) (record s { definitions = definitions })
with-macros names path state s table definitions has knows files holds = record {
  made = holds.made;
  macros = has;
  knows = knows;
  files = λ file. ap (λ (entries : List (ℕ × NameId)). option_map (text_of names) (lookup (nat_eq file) entries)) files ∙ holds.files file;
  budget = holds.budget;
  sum = holds.sum;
  bytes = holds.bytes;
  paths = holds.paths;
  paths_known = holds.paths_known;
  main = holds.main;
  undefined = holds.undefined;
  undefined_known = holds.undefined_known;
  few = holds.few;
  tokens_known = holds.tokens_known;
}

-- The paths of files

path-is : (paths : List (List ℕ)) (file : ℕ) → path_of paths file ≡ unwrap_or (slice_get (path_of paths 0 ∷ paths) file) []
path-is paths zero = refl
path-is paths (suc k) = refl

pub path-at : (names : List (List ℕ)) (path : List ℕ) (state : State) (s : UnitState) → Holds names path state s → (file : ℕ) (found : Option NameId) → slice_get state.paths.items file ≡ found
    → unwrap_or (option_map (text_of names) found) [] ≡ path_of s.paths file
path-at names path state s holds file found is =
    ap (λ (o : Option NameId). unwrap_or (option_map (text_of names) o) []) (sym is) ∙ ap (λ (o : Option (List ℕ)). unwrap_or o []) (sym (slice_get-map (text_of names) state.paths.items file))
    ∙ ap (λ (paths : List (List ℕ)). unwrap_or (slice_get paths file) []) holds.paths ∙ sym (path-is s.paths file)

-- it is that of the id there
pub path-found : (names : List (List ℕ)) (path : List ℕ) (state : State) (s : UnitState) → Holds names path state s → (ids : List NameId) (file : ℕ) (found : NameId) → ids ≡ state.paths.items → true ≡ nat_lt file (length ids)
    → found ≡ slice_index_or ids file found → text_of names found ≡ path_of s.paths file
path-found names path state s holds ids file found are below is =
    path-at names path state s holds file (Some found)
    (ap (λ (all : List NameId). slice_get all file) (sym are) ∙ slice_get_read ids (length ids) file found refl (ltb-true file (length ids) (sym below)) is)

-- and empty where there is none
pub path-missing : (names : List (List ℕ)) (path : List ℕ) (state : State) (s : UnitState) → Holds names path state s → (ids : List NameId) (file : ℕ) (none : NameId) → ids ≡ state.paths.items → false ≡ nat_lt file (length ids)
    → text_of names none ≡ [] → text_of names none ≡ path_of s.paths file
path-missing names path state s holds ids file none are past empty =
    empty ∙ path-at names path state s holds file None
    (ap (λ (all : List NameId). slice_get all file) (sym are) ∙ slice_get_past ids file (ltb-false file (length ids) (sym past)))

-- The identifiers that are kept

left-identifiers : (names : List (List ℕ)) (tokens : List Token) → toks_of names (filter is_left_identifier tokens) ≡ filter is_identifier_token (toks_of names tokens)
left-identifiers names [] = refl
left-identifiers names (token ∷ tokens) = by (is_left_identifier token) (left-identifiers names tokens)
  where
    by : (kept : Bool) → toks_of names (filter is_left_identifier tokens) ≡ filter is_identifier_token (toks_of names tokens)
        → toks_of names (cond kept (token ∷ filter is_left_identifier tokens) (filter is_left_identifier tokens)) ≡ cond kept (tok_of names token ∷ filter is_identifier_token (toks_of names tokens)) (filter is_identifier_token (toks_of names tokens))
    by true same = ap (λ (ts : List Tok). tok_of names token ∷ ts) same
    by false same = same

-- a condition leaves these tokens
pub with-left : (names : List (List ℕ)) (path : List ℕ) (state : State) (s : UnitState) (all : Vec Token) (tokens : List Token) → all.items ≡ state.undefined.items ++ filter is_left_identifier tokens → AreKnown names tokens
    → Holds names path state s → Holds names path (record state { undefined = all }) (with_undefined (toks_of names tokens) s)
with-left names path state s all tokens are known holds =
    with-identifiers names path state s all tokens
    (ap (toks_of names) are ∙ map-append (tok_of names) state.undefined.items (filter is_left_identifier tokens) ∙ ap (λ (ts : List Tok). toks_of names state.undefined.items ++ ts) (left-identifiers names tokens))
    (subst (AreKnown names) (sym are)
    (All-append (λ (t : Token). IsKnown names t.name) state.undefined.items (filter is_left_identifier tokens) holds.undefined_known (All-filter is_left_identifier (λ (t : Token). IsKnown names t.name) tokens known)))
    holds
