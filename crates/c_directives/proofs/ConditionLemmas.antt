-- Lines of names, words and conditions, token by token.
use Rattle.std.proofs.Common.{◌≡◌, ℕ, false, List, [], ◌∷◌, ◌++◌, filter, Option, None, Some, if◌then◌else◌, refl, sym, ap, ◌∙◌, append_assoc}
use Rattle.std.proofs.lemmas.List.{map-append}
use Rattle.meaning_text.specs.Bytes.{space}
use Rattle.meaning_text.specs.Tokens.{Tok}
use Rattle.meaning_macros.specs.Signs.{is_identifier_kind}
use Rattle.meaning_preprocessing.specs.ConditionLines.{answer_before, is_identifier_token}
use Rattle.meaning_preprocessing.specs.Directives.{error_words}
use Rattle.c_tokens.specs.declared.token.Token.{Token}
use Rattle.c_tokens.specs.Seen.{text_of, tok_of, toks_of}

-- answers before others
abbrev pub answers_before : List Tok → Option (List Tok) → Option (List Tok)
answers_before tokens None = None
answers_before tokens (Some others) = Some (tokens ++ others)

answers_more : (tokens : List Tok) (t : Tok) (others : Option (List Tok)) → answers_before (tokens ++ t ∷ []) others ≡ answers_before tokens (answer_before t others)
answers_more tokens t None = refl
answers_more tokens t (Some others) = ap Some (append_assoc tokens (t ∷ []) others)

-- one answer more
pub answer_put : (names : List (List ℕ)) (before new : List Token) (t : Token) (rest all seen : Option (List Tok)) → new ≡ before ++ t ∷ [] → answer_before (tok_of names t) rest ≡ seen
    → answers_before (toks_of names before) seen ≡ all → answers_before (toks_of names new) rest ≡ all
answer_put names before new t rest all seen pushed is given =
    ap (λ tokens. answers_before tokens rest) (ap (toks_of names) pushed ∙ map-append (tok_of names) before (t ∷ []))
    ∙ answers_more (toks_of names before) (tok_of names t) rest ∙ ap (answers_before (toks_of names before)) is ∙ given

-- one word more
pub word_put : (names : List (List ℕ)) (before mid new : List ℕ) (t : Token) (text : List ℕ) (others left : List Token) (all : List ℕ) → left ≡ t ∷ others → mid ≡ before ++ space ∷ [] → text ≡ text_of names t.name → new ≡ mid ++ text
    → before ++ error_words (toks_of names left) ≡ all → new ++ error_words (toks_of names others) ≡ all
word_put names before mid new t text others left all front spaced spelled put given =
    ap (λ words. words ++ error_words (toks_of names others)) (put ∙ (λ i. spaced i ++ spelled i) ∙ append_assoc before (space ∷ []) (text_of names t.name))
    ∙ append_assoc before (space ∷ text_of names t.name) (error_words (toks_of names others))
    ∙ ap (λ tokens. before ++ error_words (toks_of names tokens)) (sym front) ∙ given

pub other_left : (names : List (List ℕ)) (before : List Token) (t : Token) (others left : List Token) (all : List Tok) → left ≡ t ∷ others → is_identifier_kind t.kind ≡ false
    → toks_of names before ++ filter is_identifier_token (toks_of names left) ≡ all → toks_of names before ++ filter is_identifier_token (toks_of names others) ≡ all
other_left names before t others left all front is given =
    ap (λ tokens. toks_of names before ++ tokens) (ap (λ here. if here then tok_of names t ∷ filter is_identifier_token (toks_of names others) else filter is_identifier_token (toks_of names others)) (sym is))
    ∙ ap (λ tokens. toks_of names before ++ filter is_identifier_token (toks_of names tokens)) (sym front) ∙ given
