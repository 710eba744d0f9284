-- A name of a unit is spelled as it stands in its tokens.
use Rattle.std.proofs.Common.{◌≡◌, ℕ, zero, suc, Bool, true, false, cond, List, [], ◌∷◌, ◌++◌, Option, Some, slice_get, unwrap_or, refl, sym, ap, ◌∙◌, append_assoc, append-nil}
use Rattle.std.specs.List.{list_any}
use Rattle.std.specs.Str.{bytes_eq}
use Rattle.meaning_text.specs.Tokens.{Tok}
use Rattle.meaning_unit_nodes.specs.Numbered.{number_told, place_told, spellings_told, told_behind, with_told}
use Rattle.meaning_unit_nodes.proofs.Numbers.{place_told-stands}
use Rattle.meaning_names.specs.Spelled.{spelled_name}
use Rattle.meaning_answer.specs.Units.{ParsedUnit, spellings_in, with_all_told}
use Rattle.meaning_answer.specs.laws.Answers.{NamesAreSpelledBack}

-- these, and more behind them
abbrev Begins : (told all : List (List ℕ)) → Type 0
Begins told all = (more : List (List ℕ)) × (all ≡ told ++ more)

begins-itself : (told : List (List ℕ)) → Begins told told
begins-itself told = ([], sym (append-nil told))

begins-on : (told some all : List (List ℕ)) → Begins told some → Begins some all → Begins told all
begins-on told some all first then =
    (first.0 ++ then.0, then.1 ∙ ap (λ (front : List (List ℕ)). front ++ then.0) first.1 ∙ append_assoc told first.0 then.0)

begins-by : (is_told : Bool) (told : List (List ℕ)) (spelling : List ℕ) → Begins told (cond is_told told (told ++ spelling ∷ []))
begins-by true told spelling = begins-itself told
begins-by false told spelling = (spelling ∷ [], refl)

begins-one : (told : List (List ℕ)) (spelling : List ℕ) → Begins told (with_told told spelling)
begins-one told spelling = begins-by (list_any (bytes_eq spelling) told) told spelling

begins-tokens : (told : List (List ℕ)) (tokens : List Tok) → Begins told (told_behind told tokens)
begins-tokens told [] = begins-itself told
begins-tokens told (token ∷ tokens) = begins-on told _ _ (begins-one told token.text) (begins-tokens (with_told told token.text) tokens)

begins-all : (told spellings : List (List ℕ)) → Begins told (with_all_told told spellings)
begins-all told [] = begins-itself told
begins-all told (spelling ∷ spellings) = begins-on told _ _ (begins-one told spelling) (begins-all (with_told told spelling) spellings)

begins-unit : (unit : ParsedUnit) → Begins (spellings_told unit.tokens) (spellings_in unit)
begins-unit unit =
    let told = spellings_told unit.tokens in
    begins-on told _ _ (begins-tokens told unit.undefined) (begins-all (told_behind told unit.undefined) unit.files)

-- what stands in front stays where it is
stays : (told more : List (List ℕ)) (place : ℕ) (spelling : List ℕ) → slice_get told place ≡ Some spelling → slice_get (told ++ more) place ≡ Some spelling
stays [] more place spelling is = absurd (cc is)
stays (first ∷ told) more zero spelling is = is
stays (first ∷ told) more (suc place) spelling is = stays told more place spelling is

spelled-by : (told all : List (List ℕ)) (spelling : List ℕ) → Begins told all → list_any (bytes_eq spelling) told ≡ true
    → spelled_name all (number_told told spelling) ≡ spelling
spelled-by told all [] begins among = refl
spelled-by told all (byte ∷ bytes) begins among =
    let stands = stays told begins.0 (place_told told (byte ∷ bytes)) (byte ∷ bytes) (place_told-stands told (byte ∷ bytes) among) in
    ap (λ (these : List (List ℕ)). unwrap_or (slice_get these (place_told told (byte ∷ bytes))) []) begins.1 ∙ ap (λ (found : Option (List ℕ)). unwrap_or found []) stands

pub names_are_spelled_back : NamesAreSpelledBack
names_are_spelled_back unit spelling among =
    spelled-by (spellings_told unit.tokens) (spellings_in unit) spelling (begins-unit unit) among
