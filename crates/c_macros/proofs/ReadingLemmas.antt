-- A table of names with different spellings is part of a way to spell all ids that keeps them apart.
use Rattle.std.proofs.Common.{◌≡◌, ℕ, suc, zero, ◌≤◌, Bool, true, false, nat_eq, List, [], ◌∷◌, ◌++◌, length, map, slice_get, unwrap_or, Option, None, Some, All, cond, if◌then◌else◌, option_map, refl, sym, ap, ◌∙◌, ⊎_elim, arith, length-append}
use Rattle.std.specs.Str.{bytes_eq}
use Rattle.std.specs.Map.{lookup}
use Rattle.std.proofs.lemmas.Bool.{cases_Bool}
use Rattle.std.proofs.lemmas.Bool.Decides.{eqb_tells}
use Rattle.std.proofs.lemmas.List.Elements.{All-head, All-tail}
use Rattle.std.proofs.lemmas.Option.{slice_get-get_or, same_Some, none-some}
use Rattle.std.proofs.lemmas.Slice.Eq.{bytes_eq-Decides}
use Rattle.std.specs.Cmp.{nat_eq_equiv}
use Rattle.meaning_macros.specs.Macros as macros
use Rattle.sparse_model.specs.declared.ids.NameId.{NameId}
use Rattle.c_tokens.specs.declared.token.Token.{Token}
use Rattle.c_tokens.specs.Seen.{IsKnown, text_of}
use Rattle.c_tokens.specs.Spellings.{AreApart}
use Rattle.c_macros.specs.declared.definition.Macro.{Macro}
use Rattle.c_macros.specs.Parameters.{params_in}
use Rattle.c_macros.specs.Seen.{IsKnownMacro, KeepsApart, Spelling, macro_by, macro_of, params_by, token_by}

-- all spellings, one behind the other
abbrev all_texts : List (List ℕ) → List ℕ
all_texts [] = []
all_texts (name ∷ names) = name ++ all_texts names

-- the spelling that was found, or one that is longer than all of the table
abbrev found_or_long : List (List ℕ) → ℕ → Option (List ℕ) → List ℕ
found_or_long names number None = number ∷ all_texts names
found_or_long names number (Some text) = text

-- every id, spelled as in the table where it has it
abbrev pub spelled_by : List (List ℕ) → Spelling
spelled_by names id = found_or_long names id.0 (slice_get names id.0)

-- none of the spellings is longer than all of them
no_longer : (names : List (List ℕ)) (i : ℕ) (text : List ℕ) → slice_get names i ≡ Some text → length text ≤ length (all_texts names)
no_longer [] i text found = absurd (none-some text found)
no_longer (name ∷ names) zero text found = omega (arith, ap length (same_Some _ _ found), length-append name (all_texts names))
no_longer (name ∷ names) (suc i) text found = omega (arith, no_longer names i text found, length-append name (all_texts names))

abbrev first_of : List ℕ → ℕ
first_of [] = 0
first_of (b ∷ text) = b

-- what is spelled alike has one number
one_number : (names : List (List ℕ)) → AreApart names → (i j : ℕ) (first second : Option (List ℕ)) → slice_get names i ≡ first → slice_get names j ≡ second
    → found_or_long names i first ≡ found_or_long names j second → i ≡ j
one_number names apart i j (Some text) (Some other) at_i at_j same = apart i j text at_i (at_j ∙ ap Some (sym same))
one_number names apart i j (Some text) None at_i at_j same = absurd (omega (arith, no_longer names i text at_i, ap length same))
one_number names apart i j None (Some other) at_i at_j same = absurd (omega (arith, no_longer names j other at_j, ap length same))
one_number names apart i j None None at_i at_j same = ap first_of same

-- different ids are spelled differently
pub spelled_by-KeepsApart : (names : List (List ℕ)) → AreApart names → KeepsApart (spelled_by names)
spelled_by-KeepsApart names apart i j = ⊎_elim
    (λ same. (bytes_eq-Decides _ _).1 (ap (λ k. found_or_long names k (slice_get names k)) same.1) ∙ sym same.0)
    (λ other. ⊎_elim
    (λ equal. absurd (other.1 (one_number names apart i.0 j.0 _ _ refl refl ((bytes_eq-Decides _ _).0 equal))))
    (λ unequal. unequal ∙ sym other.0)
    (cases_Bool (bytes_eq (spelled_by names i) (spelled_by names j))))
    (eqb_tells i.0 j.0)

-- an id of the table is spelled as there
pub spelled_by-known : (names : List (List ℕ)) (id : NameId) → IsKnown names id → spelled_by names id ≡ text_of names id
spelled_by-known names id known =
    let found = slice_get-get_or names id.0 [] known in
    ap (found_or_long names id.0) found ∙ sym (ap (λ text. unwrap_or text []) found)

names-known : (names : List (List ℕ)) (ids : List NameId) → All (IsKnown names) ids → map (spelled_by names) ids ≡ map (text_of names) ids
names-known names [] known = refl
names-known names (id ∷ ids) known = λ k.
    spelled_by-known names id (All-head (IsKnown names) id ids known) k ∷ names-known names ids (All-tail (IsKnown names) id ids known) k

params-known : (names : List (List ℕ)) (params : Option (List NameId)) → All (IsKnown names) (params_in params) → params_by (spelled_by names) params ≡ params_by (text_of names) params
params-known names None known = refl
params-known names (Some ids) known = ap Some (names-known names ids known)

tokens-known : (names : List (List ℕ)) (tokens : List Token) → All (λ (token : Token). IsKnown names token.name) tokens → map (token_by (spelled_by names)) tokens ≡ map (token_by (text_of names)) tokens
tokens-known names [] known = refl
tokens-known names (token ∷ tokens) known = λ k.
    record (token_by (text_of names) token) { text = spelled_by-known names token.name (All-head (λ (t : Token). IsKnown names t.name) token tokens known) k }
    ∷ tokens-known names tokens (All-tail (λ (t : Token). IsKnown names t.name) token tokens known) k

-- a macro whose ids the table has is spelled as there
pub macro_by-known : (names : List (List ℕ)) (m : Macro) → IsKnownMacro names m → macro_by (spelled_by names) m ≡ macro_of names m
macro_by-known names m known = λ k. record (macro_of names m) { parameters = params-known names m.params known.params k; body = tokens-known names m.body known.body k }

-- two ids of the table are one where their spellings are
equal-known : (names : List (List ℕ)) → AreApart names → (i j : NameId) → IsKnown names i → IsKnown names j → bytes_eq (text_of names i) (text_of names j) ≡ nat_eq i.0 j.0
equal-known names apart i j first second =
    (λ k. bytes_eq (sym (spelled_by-known names i first) k) (sym (spelled_by-known names j second) k)) ∙ spelled_by-KeepsApart names apart i j

-- what entries have at an id is what they have at its spelling
pub found-known : (names : List (List ℕ)) → AreApart names → (entries : List (NameId × Macro)) (name : NameId) → All (λ (entry : NameId × Macro). IsKnown names entry.0) entries → IsKnown names name
    → macros.macro_of (map (λ (entry : NameId × Macro). record { name = text_of names entry.0; macro = macro_of names entry.1 }) entries) (text_of names name)
    ≡ option_map (macro_of names) (lookup (λ (other : NameId). nat_eq name.0 other.0) entries)
found-known names apart [] name known here = refl
found-known names apart (entry ∷ entries) name known here =
    let P = λ (e : NameId × Macro). IsKnown names e.0 in
    (λ k. if (equal-known names apart entry.0 name (All-head P entry entries known) here ∙ nat_eq_equiv.symm entry.0.0 name.0) k
    then Some (macro_of names entry.1) else found-known names apart entries name (All-tail P entry entries known) here k)
    ∙ by (nat_eq name.0 entry.0.0) (lookup (λ (other : NameId). nat_eq name.0 other.0) entries)
  where
    by : (this : Bool) (later : Option Macro) → (if this then Some (macro_of names entry.1) else option_map (macro_of names) later) ≡ option_map (macro_of names) (cond this (Some entry.1) later)
    by true later = refl
    by false later = refl
