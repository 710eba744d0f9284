-- The name of a header in angles, token by token.
use Rattle.std.proofs.Common.{◌≡◌, ℕ, true, false, List, [], ◌∷◌, ◌++◌, Option, None, Some, option_map, if◌then◌else◌, refl, sym, ap, ◌∙◌, append_assoc}
use Rattle.meaning_text.specs.Tokens.{Tok}
use Rattle.meaning_preprocessing.specs.Search.{is_greater_kind, name_to_greater}
use Rattle.c_tokens.specs.declared.token.Token.{Token}
use Rattle.c_tokens.specs.Seen.{text_of, tok_of, toks_of}

-- a name that begins so
abbrev pub bytes_before : List ℕ → Option (List ℕ) → Option (List ℕ)
bytes_before bytes None = None
bytes_before bytes (Some name) = Some (bytes ++ name)

-- the bytes of another token
other-front : (t : Tok) (ts : List Tok) → is_greater_kind t.kind ≡ false → name_to_greater (t ∷ ts) ≡ bytes_before t.text (name_to_greater ts)
other-front t [] is = ap (λ b. if b then Some [] else None) is
other-front t (u ∷ ts) is =
    ap (λ b. elim b as (λ _. Option (List ℕ)) [ true ↦ None | false ↦ option_map (λ name. t.text ++ name) (name_to_greater (u ∷ ts)) ]) is ∙ by (name_to_greater (u ∷ ts))
  where
    by : (name : Option (List ℕ)) → option_map (λ n. t.text ++ n) name ≡ bytes_before t.text name
    by None = refl
    by (Some n) = refl

twice : (first then_ : List ℕ) (name : Option (List ℕ)) → bytes_before (first ++ then_) name ≡ bytes_before first (bytes_before then_ name)
twice first then_ None = refl
twice first then_ (Some name) = ap Some (append_assoc first then_ name)

pub name_goes_on : (names : List (List ℕ)) (before new text : List ℕ) (t : Token) (others left : List Token) (all : Option (List ℕ)) → left ≡ t ∷ others → is_greater_kind t.kind ≡ false → text ≡ text_of names t.name → new ≡ before ++ text
    → bytes_before before (name_to_greater (toks_of names left)) ≡ all → bytes_before new (name_to_greater (toks_of names others)) ≡ all
name_goes_on names before new text t others left all front other spelled put given =
    ap (λ bytes. bytes_before bytes (name_to_greater (toks_of names others))) (put ∙ ap (λ bytes. before ++ bytes) spelled)
    ∙ twice before (text_of names t.name) (name_to_greater (toks_of names others))
    ∙ ap (bytes_before before) (sym (other-front (tok_of names t) (toks_of names others) other))
    ∙ ap (λ tokens. bytes_before before (name_to_greater (toks_of names tokens))) (sym front) ∙ given
