-- What a run says of the tokens that are read through the table of names.
use Rattle.std.proofs.Common.{◌≡◌, ◌<◌, ◌≤◌, ℕ, Bool, true, false, nat_eq, List, [], ◌∷◌, ◌++◌, length, map, reverse, All, Option, Some, None, option_map, unwrap_or, codes, cond, if◌then◌else◌, refl, sym, ap, subst, ◌∙◌, ⊎_elim, arith, eq-eqb, length-append}
use Rattle.std.specs.Map.{lookup}
use Rattle.std.specs.Str.{bytes_eq}
use Rattle.std.proofs.lemmas.Bool.{both_ways}
use Rattle.std.proofs.lemmas.Bool.Decides.{eqb_tells}
use Rattle.std.proofs.lemmas.Grind.{reverse_onto}
use Rattle.std.proofs.lemmas.List.{append-nil, length-map, get_or-map}
use Rattle.std.proofs.lemmas.List.Elements.{All-head, All-push, All-tail}
use Rattle.meaning_macros.specs.Hiding.{hides_nothing}
use Rattle.meaning_macros.specs.Macros as macros
use Rattle.meaning_macros.specs.Expansion as expansion
use Rattle.meaning_macros.specs.Expansion.{Expanded, Expander}
use Rattle.meaning_macros.specs.laws.Expansion.{HaveSameMacros}
use Rattle.meaning_macros.proofs.Cases.{expansion-is}
use Rattle.meaning_macros.proofs.TableLemmas.{expand_by-table}
use Rattle.number_sets.specs.NumberSets as sets
use Rattle.number_sets.specs.NumberSets.{IsSet, numbers_at}
use Rattle.number_sets.proofs.PlainLemmas.{numbers_at-plain}
use Rattle.sparse_model.specs.declared.ids.NameId.{NameId}
use Rattle.c_tokens.specs.declared.token.Token.{Token}
use Rattle.c_tokens.specs.Seen.{Extends, IsKnown, text_of, tok_of, toks_of}
use Rattle.c_tokens.specs.Spellings.{AreApart}
use Rattle.c_tokens.proofs.SeenLemmas.{IsKnown-Extends}
use Rattle.c_macros.specs.declared.budget.Budget.{Budget}
use Rattle.c_macros.specs.declared.definition.Macro.{Macro}
use Rattle.c_macros.specs.declared.item.Item.{Item}
use Rattle.c_macros.specs.declared.run.Run.{Run}
use Rattle.c_macros.specs.Ends.{budget_by}
use Rattle.c_macros.specs.Expanded.{expanded_of, fresh_item, no_sets, token_of}
use Rattle.c_macros.specs.Meaning.{IsExpansion}
use Rattle.c_macros.specs.Parameters.{params_in}
use Rattle.c_macros.specs.Reading.{Reading, Reads, ReadsNames, hidings_by, names_of}
use Rattle.c_macros.specs.Run.{Comes, IsKnownItem, KnowsTable, outcome, table_by}
use Rattle.c_macros.specs.Seen.{IsKnownMacro, KnowsAll, macro_by, macro_of, params_by, table_of, token_by}
use Rattle.c_macros.specs.Table.{Table}
use Rattle.c_macros.specs.Waiting.{Waiting, backwards, calls_of, call_of}
use Rattle.c_macros.proofs.HideLemmas.{Reads-earlier}
use Rattle.c_macros.proofs.KnowsLemmas.{All-named, macro-Extends}
use Rattle.c_macros.proofs.PredefinedLemmas.{spelled-found}
use Rattle.c_macros.proofs.ReadingLemmas.{spelled_by, spelled_by-known, spelled_by-KeepsApart}

-- a list the other way round, as std has it
pub reverse-is : {X : Type 0} (xs : List X) → reverse xs ≡ backwards xs
reverse-is [] = refl
reverse-is (x ∷ xs) = reverse_onto xs x [] ∙ ap (λ ys. ys ++ x ∷ []) (reverse-is xs)

pub knows-table : (names : List (List ℕ)) (table : Table) → KnowsAll names table → KnowsTable names table
knows-table names table knows = record { macros = knows.macros; files = knows.files }

pub knows-later : (names later : List (List ℕ)) (table : Table) → Extends names later → KnowsTable names table → KnowsTable later table
knows-later names later table more knows = record {
  macros = λ name m found. macro-Extends names later more m (knows.macros name m found);
  files = λ file name found. IsKnown-Extends names later more name (knows.files file name found);
}

-- Reading through the names

token-read : (names : List (List ℕ)) (r : Reading) → ReadsNames names r → (token : Token) → IsKnown names token.name → token_by r.spelled token ≡ tok_of names token
token-read names r reads token known = λ k. record (tok_of names token) { text = reads.texts token.name known k }

tokens-read : (names : List (List ℕ)) (r : Reading) → ReadsNames names r → (tokens : List Token) → All (λ (t : Token). IsKnown names t.name) tokens → map (token_by r.spelled) tokens ≡ toks_of names tokens
tokens-read names r reads [] known = refl
tokens-read names r reads (token ∷ tokens) known = λ k.
    token-read names r reads token (All-head (λ (t : Token). IsKnown names t.name) token tokens known) k
    ∷ tokens-read names r reads tokens (All-tail (λ (t : Token). IsKnown names t.name) token tokens known) k

ids-read : (names : List (List ℕ)) (r : Reading) → ReadsNames names r → (ids : List NameId) → All (IsKnown names) ids → map r.spelled ids ≡ map (text_of names) ids
ids-read names r reads [] known = refl
ids-read names r reads (id ∷ ids) known = λ k. reads.texts id (All-head (IsKnown names) id ids known) k ∷ ids-read names r reads ids (All-tail (IsKnown names) id ids known) k

params-read : (names : List (List ℕ)) (r : Reading) → ReadsNames names r → (params : Option (List NameId)) → All (IsKnown names) (params_in params) → params_by r.spelled params ≡ params_by (text_of names) params
params-read names r reads None known = refl
params-read names r reads (Some ids) known = ap Some (ids-read names r reads ids known)

macro-read : (names : List (List ℕ)) (r : Reading) → ReadsNames names r → (m : Macro) → IsKnownMacro names m → macro_by r.spelled m ≡ macro_of names m
macro-read names r reads m known = λ k. record { parameters = params-read names r reads m.params known.params k; variadic = m.variadic; body = tokens-read names r reads m.body known.body k }

-- what entries have at a spelling, where their names are known, and the macros that such look-ups find
found-read : (names : List (List ℕ)) (r : Reading) → ReadsNames names r → (text : List ℕ) (entries : List (NameId × Macro)) → All (λ (e : NameId × Macro). IsKnown names e.0) entries
    → ((name : NameId) (m : Macro) → lookup (λ (other : NameId). nat_eq name.0 other.0) entries ≡ Some m → bytes_eq (r.spelled name) text ≡ true → IsKnownMacro names m)
    → macros.macro_of (map (λ (entry : NameId × Macro). record { name = text_of names entry.0; macro = macro_of names entry.1 }) entries) text
    ≡ macros.macro_of (map (λ (entry : NameId × Macro). record { name = r.spelled entry.0; macro = macro_by r.spelled entry.1 }) entries) text
found-read names r reads text [] named known = refl
found-read names r reads text (entry ∷ entries) named known =
    (λ k. if bytes_eq (sym here k) text then Some (macro_of names entry.1) else macros.macro_of (map (λ (e : NameId × Macro). record { name = text_of names e.0; macro = macro_of names e.1 }) entries) text)
    ∙ by (bytes_eq (r.spelled entry.0) text) refl
    (λ differs. found-read names r reads text entries (All-tail (λ (e : NameId × Macro). IsKnown names e.0) entry entries named) (λ name m found same. known name m (behind differs name m found same) same))
  where
    here : r.spelled entry.0 ≡ text_of names entry.0
    here = reads.texts entry.0 (All-head (λ (e : NameId × Macro). IsKnown names e.0) entry entries named)

    -- a name of this text isn't the first, where that has another
    behind : bytes_eq (r.spelled entry.0) text ≡ false → (name : NameId) (m : Macro) → lookup (λ (other : NameId). nat_eq name.0 other.0) entries ≡ Some m → bytes_eq (r.spelled name) text ≡ true
        → lookup (λ (other : NameId). nat_eq name.0 other.0) (entry ∷ entries) ≡ Some m
    behind differs name m found same = ⊎_elim
        (λ one. absurd (both_ways _ differs (ap (λ n. bytes_eq (r.spelled (record { 0 = n })) text) (sym one.1) ∙ same)))
        (λ two. ap (λ this. cond this (Some entry.1) (lookup (λ (other : NameId). nat_eq name.0 other.0) entries)) two.0 ∙ found)
        (eqb_tells name.0 entry.0.0)

    by : (this : Bool) → bytes_eq (r.spelled entry.0) text ≡ this
        → (bytes_eq (r.spelled entry.0) text ≡ false
        → macros.macro_of (map (λ (e : NameId × Macro). record { name = text_of names e.0; macro = macro_of names e.1 }) entries) text
        ≡ macros.macro_of (map (λ (e : NameId × Macro). record { name = r.spelled e.0; macro = macro_by r.spelled e.1 }) entries) text)
        → (if this then Some (macro_of names entry.1) else macros.macro_of (map (λ (e : NameId × Macro). record { name = text_of names e.0; macro = macro_of names e.1 }) entries) text)
        ≡ (if this then Some (macro_by r.spelled entry.1) else macros.macro_of (map (λ (e : NameId × Macro). record { name = r.spelled e.0; macro = macro_by r.spelled e.1 }) entries) text)
    by true is rest = ap Some (sym (macro-read names r reads entry.1 (known entry.0 entry.1 (ap (λ this. cond this (Some entry.1) (lookup (λ (other : NameId). nat_eq entry.0.0 other.0) entries)) (eq-eqb entry.0.0 entry.0.0 refl)) is)))
    by false is rest = rest is

-- the table as the names say it, and as it is read
table-read : (names : List (List ℕ)) (r : Reading) → ReadsNames names r → (table : Table) → KnowsAll names table → HaveSameMacros (table_of names table) (table_by r.spelled table)
table-read names r reads table knows = record {
  macros = λ text. found-read names r reads text table.macros (All-named (IsKnown names) table.macros knows.named) (λ name m found same. knows.macros name m found);
  files = λ file. spelled-found (text_of names) table.files file ∙ by file (lookup (nat_eq file) table.files) refl ∙ sym (spelled-found r.spelled table.files file);
}
  where
    by : (file : ℕ) (found : Option NameId) → lookup (nat_eq file) table.files ≡ found → unwrap_or (option_map (text_of names) found) (codes "\"\"") ≡ unwrap_or (option_map r.spelled found) (codes "\"\"")
    by file None is = refl
    by file (Some spelled) is = sym (reads.texts spelled (knows.files file spelled is))

fresh-read : (names : List (List ℕ)) (r : Reading) → ReadsNames names r → (tokens : List Token) → All (λ (t : Token). IsKnown names t.name) tokens → hidings_by r (map fresh_item tokens) ≡ map hides_nothing (toks_of names tokens)
fresh-read names r reads [] known = refl
fresh-read names r reads (token ∷ tokens) known = λ k.
    record { token = token-read names r reads token (All-head (λ (t : Token). IsKnown names t.name) token tokens known) k; hides = reads.empty (record { 0 = 0 }) refl k }
    ∷ fresh-read names r reads tokens (All-tail (λ (t : Token). IsKnown names t.name) token tokens known) k

pub made-read : (names : List (List ℕ)) (table : sets.Table) (r : Reading) → ReadsNames names r → (items : List Item) → All (IsKnownItem names table) items → toks_of names (map (λ (item : Item). item.token) items) ≡ map token_of (hidings_by r items)
made-read names table r reads [] known = refl
made-read names table r reads (item ∷ items) known = λ k.
    sym (token-read names r reads item.token (All-head (IsKnownItem names table) item items known).name) k ∷ made-read names table r reads items (All-tail (IsKnownItem names table) item items known) k

pub tokens-known : (names : List (List ℕ)) (table : sets.Table) (items : List Item) → All (IsKnownItem names table) items → All (λ (t : Token). IsKnown names t.name) (map (λ (item : Item). item.token) items)
tokens-known names table items known = λ k d below.
    let within : k < length items = omega (arith, below, length-map items (λ (item : Item). item.token)) in
    let item : Item = record { token = d; hides = record { 0 = 0 } } in
    subst (λ (t : Token). IsKnown names t.name) (sym (get_or-map (λ (item : Item). item.token) items k item d within)) (known k item within).name

-- The reading at the end

abbrev pub last_reading : List (List ℕ) → sets.Table → Reading
last_reading names table = record { spelled = spelled_by names; hidden = λ set. names_of (spelled_by names) (numbers_at table set.0) }

pub last-reads : (names : List (List ℕ)) (table : sets.Table) → AreApart names → sets.Extends no_sets table → Reads names table (last_reading names table)
last-reads names table apart more = record {
  spells = record {
    texts = spelled_by-known names;
    apart = spelled_by-KeepsApart names apart;
    empty = λ set none. ap (names_of (spelled_by names)) (ap (numbers_at table) none ∙ ap (λ t. numbers_at t 0) more.1 ∙ numbers_at-plain more.0);
  };
  hides = λ set is. refl;
}

-- what is asked for, as the run reads it
pub asked-is : (names later : List (List ℕ)) (r : Reading) → ReadsNames names r → (table : Table) → KnowsAll names table → (tokens : List Token) → All (λ (t : Token). IsKnown names t.name) tokens → (b : Budget)
    → outcome (expansion.expansion (table_of names table)) r table [] [] (map fresh_item tokens) b ≡ expanded_of names table b tokens
asked-is names later r reads table knows tokens known b = ap (expansion.expansion (table_of names table) (budget_by b)) (fresh-read names r reads tokens known)

pub is-expansion : (names : List (List ℕ)) (r : Reading) → ReadsNames names r → (table : Table) → KnowsAll names table → IsExpansion (table_by r.spelled table) (expansion.expansion (table_of names table))
is-expansion names r reads table knows b ts =
    let f = expansion.expansion (table_of names table) in
    expansion-is (table_of names table) b ts ∙ expand_by-table (table_of names table) (table_by r.spelled table) (table-read names r reads table knows) f b ts

-- nothing is left to read
pub finished-is : (f : Expander) (r : Reading) (table : Table) → IsExpansion (table_by r.spelled table) f → (waits : List Waiting) (made now : List Item) (b : Budget) → waits ≡ [] → now ≡ []
    → outcome f r table waits made now b ≡ record { tokens = hidings_by r made; end = expansion.Finished (budget_by b) }
finished-is f r table is waits made now b no_waits none =
    (λ i. outcome f r table (no_waits i) made (none i) b)
    ∙ ap (λ (e : Expanded). record { tokens = hidings_by r made ++ e.tokens; end = e.end }) (is (budget_by b) [])
    ∙ λ i. record { tokens = append-nil (hidings_by r made) i; end = expansion.Finished (budget_by b) }

pub no_calls : (waits : List Waiting) → 0 ≡ length (calls_of waits) → waits ≡ []
no_calls [] none = refl
no_calls (w ∷ ws) none = absurd (omega (arith, none, length-append (calls_of ws) (call_of w ws ∷ [])))

pub none_now : (now : List Item) → length (backwards now) ≤ 0 → now ≡ []
none_now [] none = refl
none_now (t ∷ ts) none = absurd (omega (arith, none, length-append (backwards ts) (t ∷ [])))

pub fresh-known : (names : List (List ℕ)) (table : sets.Table) (tokens : List Token) → 0 < length table → All (λ (t : Token). IsKnown names t.name) tokens → All (IsKnownItem names table) (backwards (map fresh_item tokens))
fresh-known names table [] some known = λ k d below. absurd (omega (arith, below))
fresh-known names table (token ∷ tokens) some known =
    All-push (IsKnownItem names table) (backwards (map fresh_item tokens)) (fresh_item token)
    (fresh-known names table tokens some (All-tail (λ (t : Token). IsKnown names t.name) token tokens known))
    (record { name = All-head (λ (t : Token). IsKnown names t.name) token tokens known; set = some })

-- a run that has nothing left says what is asked for
pub ended-is : (names later : List (List ℕ)) (run : Run) (table : Table) → KnowsAll names table → (tokens : List Token) → All (λ (t : Token). IsKnown names t.name) tokens → (b left : Budget)
    → Extends names later → sets.Extends no_sets run.sets → AreApart later → (comes : Comes later run table [] [] (map fresh_item tokens) b left) → comes.shape.waits ≡ [] → comes.shape.now ≡ []
    → expanded_of names table b tokens ≡ record { tokens = hidings_by (last_reading later run.sets) comes.shape.made; end = expansion.Finished (budget_by left) }
ended-is names later run table knows tokens known b left grows more apart comes no_waits none =
    let r = last_reading later run.sets in
    let f = expansion.expansion (table_of names table) in
    sym (comes.means r reads f is ∙ asked-is names later r first table knows tokens known b)
    ∙ finished-is f r table is comes.shape.waits comes.shape.made comes.shape.now left no_waits none
  where
    reads : Reads later run.sets (last_reading later run.sets)
    reads = last-reads later run.sets apart more

    first : ReadsNames names (last_reading later run.sets)
    first = (Reads-earlier names later run.sets run.sets (last_reading later run.sets) grows ([], sym (append-nil run.sets)) (last-reads later run.sets apart more)).spells

    is : IsExpansion (table_by (last_reading later run.sets).spelled table) (expansion.expansion (table_of names table))
    is = is-expansion names (last_reading later run.sets) first table knows
