-- What stands before the first line of a unit.
use Rattle.std.proofs.Common.{◌≡◌, ◌≢◌, ◌<◌, ◌≤◌, ◌+◌, ℕ, zero, suc, List, [], ◌∷◌, length, map, All, Option, Some, None, option_map, codes, refl, sym, ap, subst, ◌∙◌, arith}
use Rattle.std.specs.Global.{Vec}
use Rattle.std.proofs.lemmas.Option.{none-some}
use Rattle.std.proofs.lemmas.List.Elements.{All-nil, All-push}
use Rattle.meaning_macros.specs.Macros as macros
use Rattle.meaning_macros.specs.Macros.{Definition}
use Rattle.meaning_preprocessing.specs.State.{spelled_path}
use Rattle.meaning_preprocessing.specs.DefinitionLines.{macro_without_list}
use Rattle.meaning_preprocessing.specs.Unit.{first_definitions, first_state, number_body, number_definition, unit_limits}
use Rattle.sparse_model.specs.declared.ids.NameId.{NameId}
use Rattle.c_tokens.specs.declared.token.Token.{Token}
use Rattle.c_tokens.specs.Spellings.{AreApart}
use Rattle.c_tokens.specs.Seen.{Extends, IsKnown, text_of}
use Rattle.c_tokens.proofs.SeenLemmas.{text_of-Extends}
use Rattle.c_macros.specs.declared.budget.Budget.{Budget}
use Rattle.c_macros.specs.declared.definition.Macro.{Macro}
use Rattle.c_macros.specs.Seen.{KnowsAll}
use Rattle.c_macros.specs.Redefinition.{defined_as}
use Rattle.c_macros.specs.Seen.{IsKnownMacro, macro_of}
use Rattle.c_macros.specs.Table.{Table, macro_at, spelling_of_file}
use Rattle.c_directives.specs.Conditions.{HasMacros}
use Rattle.c_directives.specs.Made.{AreMadeWords}
use Rattle.c_directives.specs.declared.made.MadeWords.{MadeWords}
use Rattle.c_directives.proofs.MacroLineLemmas.{new-has}
use Rattle.c_preproc.specs.States.{HasFiles, Holds}

-- a name that has no macro yet gets this one
pub number-has : (names : List (List ℕ)) → AreApart names → (definitions : List Definition) (old new : Table) (id : NameId) (m : Macro) (name text : List ℕ) → text_of names id ≡ name → macro_of names m ≡ macro_without_list (number_body text)
    → IsKnown names id → IsKnownMacro names m → HasMacros names definitions old → macros.macro_of definitions name ≡ None → macro_at new id ≡ Some (defined_as (macro_at old id) m)
    → ((other : NameId) → other ≢ id → macro_at new other ≡ macro_at old other) → HasMacros names (number_definition name text ∷ definitions) new
number-has names apart definitions old new id m name text named seen known known_macro has none stands others =
    subst (λ (d : Definition). HasMacros names (d ∷ definitions) new) (λ i. record { name = named i; macro = seen i })
    (new-has names apart definitions old new id m known known_macro has (stands ∙ ap (λ before. Some (defined_as before m)) (by (macro_at old id) (sym (has.found id known) ∙ ap (macros.macro_of definitions) named ∙ none))) others)
  where
    by : (found : Option Macro) → option_map (macro_of names) found ≡ None → found ≡ None
    by None is = refl
    by (Some n) is = absurd (none-some (macro_of names n) (sym is))

-- a table without macros
pub none-has : (names : List (List ℕ)) (table : Table) → ((name : NameId) → macro_at table name ≡ None) → HasMacros names [] table
none-has names table none = record {
  found = λ name known. sym (ap (option_map (macro_of names)) (none name));
  known = λ name m at. absurd (none-some m (sym (none name) ∙ at));
  named = tt;
}

-- the same macros
pub same-has : (names : List (List ℕ)) (definitions : List Definition) (old new : Table) → new.macros ≡ old.macros → HasMacros names definitions old → HasMacros names definitions new
same-has names definitions old new same has = record {
  found = λ name known. has.found name known ∙ ap (option_map (macro_of names)) (sym (at name));
  known = λ name m is. has.known name m (sym (at name) ∙ is);
  named = has.named;
}
  where
    at : (name : NameId) → macro_at new name ≡ macro_at old name
    at name = ap (λ entries. macro_at (record { macros = entries; files = old.files }) name) same

-- how a file is spelled stays
pub told-later : (names later : List (List ℕ)) → Extends names later → (table : Table) → KnowsAll names table → (file : ℕ) (text : List ℕ)
    → option_map (text_of names) (spelling_of_file table file) ≡ Some text → option_map (text_of later) (spelling_of_file table file) ≡ Some text
told-later names later more table knows file text told = by (spelling_of_file table file) refl ∙ told
  where
    by : (found : Option NameId) → spelling_of_file table file ≡ found → option_map (text_of later) found ≡ option_map (text_of names) found
    by None is = refl
    by (Some spelled) is = ap Some (text_of-Extends names later more spelled (knows.files file spelled is))

-- the two files that have numbers
pub first-files : (names : List (List ℕ)) (path : List ℕ) (table : Table) → option_map (text_of names) (spelling_of_file table 0) ≡ Some (spelled_path (codes "<command>"))
    → option_map (text_of names) (spelling_of_file table 1) ≡ Some (spelled_path path) → ((file : ℕ) → file ≢ 0 → file ≢ 1 → spelling_of_file table file ≡ None) → HasFiles names (path ∷ []) table
first-files names path table command main others zero = command
first-files names path table command main others (suc zero) = main
first-files names path table command main others (suc (suc k)) =
    ap (option_map (text_of names)) (others (suc (suc k)) (λ same. omega (arith, same)) (λ same. omega (arith, same)))

pub first-holds : (names : List (List ℕ)) (path : List ℕ) (made : MadeWords) (table : Table) (budget : Budget) (paths : Vec NameId) (undefined tokens : Vec Token) (command file : NameId) → AreMadeWords names made → HasMacros names first_definitions table → KnowsAll names table
    → HasFiles names (path ∷ []) table → budget ≡ record { replacements = 4000000; tokens = 16000000; counter = 0 } → paths.items ≡ command ∷ file ∷ [] → IsKnown names command → IsKnown names file → text_of names command ≡ codes "<command>" → text_of names file ≡ path
    → undefined.items ≡ [] → tokens.items ≡ []
    → Holds names path (record { made = made; macros = table; budget = budget; bytes = 0; paths = paths; undefined = undefined; tokens = tokens }) (first_state unit_limits path)
first-holds names path made table budget paths undefined tokens command file are has knows files spends is command_known file_known command_is file_is no_names no_tokens = record {
  made = are;
  macros = has;
  knows = knows;
  files = files;
  budget = λ i. record { replacements = (spends i).replacements; tokens = (spends i).tokens; counter = (spends i).counter };
  sum = omega (arith, ap (λ (b : Budget). b.counter) spends, ap (λ (b : Budget). b.replacements) spends);
  bytes = refl;
  paths = ap (map (text_of names)) is ∙ λ i. command_is i ∷ file_is i ∷ [];
  paths_known = subst (All (IsKnown names)) (sym is) (All-push (IsKnown names) (command ∷ []) file (All-push (IsKnown names) [] command (All-nil (IsKnown names)) command_known) file_known);
  main = ([], refl);
  undefined = ap (map _) no_names;
  undefined_known = subst (All (λ (t : Token). IsKnown names t.name)) (sym no_names) (All-nil (λ (t : Token). IsKnown names t.name));
  few = omega (arith, ap length no_tokens);
  tokens_known = subst (All (λ (t : Token). IsKnown names t.name)) (sym no_tokens) (All-nil (λ (t : Token). IsKnown names t.name));
}
