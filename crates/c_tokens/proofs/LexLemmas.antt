-- What one front adds to the tokens that were found.
use Rattle.std.proofs.Common.{◌≡◌, ℕ, zero, suc, ◌<◌, Bool, true, false, List, [], ◌∷◌, ◌++◌, length, take, drop, refl, sym, ap, ◌∙◌, subst, arith, length-drop, ◌⊎◌, inl, inr, ⊎_elim}
use Rattle.std.proofs.lemmas.Bool.{both_ways, cases_Bool}
use Rattle.meaning_text.specs.Places.{At}
use Rattle.meaning_text.specs.Logical.{SourceByte, bytes_of}
use Rattle.vocabulary.specs.declared.token_kind.TokenKind.{TokenKind}
use Rattle.meaning_text.specs.Fronts.{Front, AtEnd, AtNewLine, AtBlank, AtComment, AtToken, AtOpenComment, AtOpenLiteral, front_of}
use Rattle.meaning_text.specs.Tokens.{Tok, Context, AtLineStart, allows_header_name, is_line_start, behind_token, LexFault, OpenComment, OpenLiteral}
use Rattle.meaning_text.specs.Lexing.{Lexed, Tokens, Refused, with_token, lexed_front, lexed_behind}
use Rattle.c_tokens.specs.declared.cursor.Cursor.{Cursor}
use Rattle.c_tokens.specs.Seen.{at_of}
use Rattle.c_tokens.specs.Cursor.{remaining, ahead}
use Rattle.c_tokens.proofs.CursorLemmas.{place_or, remaining-place, ahead-open, ahead-closed}
use Rattle.meaning_text.proofs.LexingFronts.{IsFront, front_of-IsFront}
use Rattle.meaning_text.proofs.LexingSteps.{lexed_behind-front}

-- with tokens before those that are found, if no fault is
abbrev pub with_tokens : List Tok → Lexed → Lexed
with_tokens [] later = later
with_tokens (token ∷ tokens) later = with_token token (with_tokens tokens later)

pub with_tokens-push : (tokens : List Tok) (token : Tok) (later : Lexed) → with_tokens (tokens ++ token ∷ []) later ≡ with_tokens tokens (with_token token later)
with_tokens-push [] token later = refl
with_tokens-push (first ∷ tokens) token later = ap (with_token first) (with_tokens-push tokens token later)

pub with_tokens-end : (tokens : List Tok) → with_tokens tokens (Tokens []) ≡ Tokens tokens
with_tokens-end [] = refl
with_tokens-end (token ∷ tokens) = ap (with_token token) (with_tokens-end tokens)

pub with_tokens-fault : (tokens : List Tok) (fault : LexFault) → with_tokens tokens (Refused fault) ≡ Refused fault
with_tokens-fault [] fault = refl
with_tokens-fault (token ∷ tokens) fault = ap (with_token token) (with_tokens-fault tokens fault)

-- what the front makes of a text that begins at this place
abbrev pub lexed_at : Context → Bool → At → List SourceByte → Front → Lexed
lexed_at context space at text AtEnd = Tokens []
lexed_at context space at text AtNewLine = lexed_behind AtLineStart true (drop 1 text)
lexed_at context space at text AtBlank = lexed_behind context true (drop 1 text)
lexed_at context space at text (AtComment count) = lexed_behind context true (drop count text)
lexed_at context space at text (AtToken kind count) =
    with_token
    (record {
      kind = kind;
      text = take count (bytes_of text);
      at = at;
      space_before = space;
      line_start = is_line_start context;
    })
    (lexed_behind (behind_token context kind (take count (bytes_of text))) false (drop count text))
lexed_at context space at text AtOpenComment = Refused (OpenComment at)
lexed_at context space at text AtOpenLiteral = Refused (OpenLiteral at)

lexed_front-at :
    (context : Context) (space : Bool) (first : SourceByte) (rest : List SourceByte) (front : Front) →
    lexed_front lexed_behind context space first rest front ≡ lexed_at context space first.at (first ∷ rest) front
lexed_front-at context space first rest AtEnd = refl
lexed_front-at context space first rest AtNewLine = refl
lexed_front-at context space first rest AtBlank = refl
lexed_front-at context space first rest (AtComment count) = refl
lexed_front-at context space first rest (AtToken kind count) = refl
lexed_front-at context space first rest AtOpenComment = refl
lexed_front-at context space first rest AtOpenLiteral = refl

lexed_behind-text :
    (context : Context) (space : Bool) (at : At) (text : List SourceByte) → place_or at text ≡ at →
    lexed_behind context space text ≡ lexed_at context space at text (front_of (allows_header_name context) (bytes_of text))
unfolding front_of
lexed_behind-text context space at [] place = refl
lexed_behind-text context space at (first ∷ rest) place =
    lexed_behind-front context space first rest
    ∙ lexed_front-at context space first rest _
    ∙ ap (λ here. lexed_at context space here (first ∷ rest) (front_of (allows_header_name context) (bytes_of (first ∷ rest)))) place

-- The tokens that were found, and those from the cursor on: the front that stands there says what they are.
pub found-before_front :
    (lexed : Lexed) (found : List Tok) (context : Context) (space allowed : Bool) (cursor : Cursor) (front : Front) →
    allowed ≡ allows_header_name context → front ≡ front_of allowed (ahead cursor) →
    lexed ≡ with_tokens found (lexed_behind context space (remaining cursor)) →
    lexed ≡ with_tokens found (lexed_at context space (at_of cursor.place) (remaining cursor) front)
found-before_front lexed found context space allowed cursor front allows is done =
    done
    ∙ ap (with_tokens found)
    (lexed_behind-text context space (at_of cursor.place) (remaining cursor) (remaining-place cursor)
    ∙ ap (lexed_at context space (at_of cursor.place) (remaining cursor)) (sym (is ∙ ap (λ b. front_of b (ahead cursor)) allows)))

-- a token joins those that were found
pub found-over_token :
    (lexed : Lexed) (found grown : List Tok) (context after : Context) (space : Bool) (at : At) (text rest : List SourceByte) (kind : TokenKind) (count : ℕ) (spelled : List ℕ) →
    lexed ≡ with_tokens found (lexed_at context space at text (AtToken kind count)) → spelled ≡ take count (bytes_of text) →
    grown ≡ found ++ record { kind = kind; text = spelled; at = at; space_before = space; line_start = is_line_start context } ∷ [] →
    after ≡ behind_token context kind spelled → rest ≡ drop count text →
    lexed ≡ with_tokens grown (lexed_behind after false rest)
found-over_token lexed found grown context after space at text rest kind count spelled done spelling grows behind rests =
    let token : List ℕ → Tok = λ word. record { kind = kind; text = word; at = at; space_before = space; line_start = is_line_start context } in
    let word = take count (bytes_of text) in
    let found_too : found ++ token word ∷ [] ≡ grown = ap (λ text. found ++ token text ∷ []) (sym spelling) ∙ sym grows in
    let after_too : behind_token context kind word ≡ after = ap (behind_token context kind) (sym spelling) ∙ sym behind in
    done ∙ sym (with_tokens-push found (token word) (lexed_behind (behind_token context kind word) false (drop count text)))
    ∙ (λ i. with_tokens (found_too i) (lexed_behind (after_too i) false (sym rests i)))

-- How many bytes a front takes

abbrev pub taken : Front → ℕ
taken AtEnd = 0
taken AtNewLine = 1
taken AtBlank = 1
taken (AtComment count) = count
taken (AtToken kind count) = count
taken AtOpenComment = 1
taken AtOpenLiteral = 1

abbrev pub is_end : Front → Bool
is_end AtEnd = true
is_end AtNewLine = false
is_end AtBlank = false
is_end (AtComment count) = false
is_end (AtToken kind count) = false
is_end AtOpenComment = false
is_end AtOpenLiteral = false

IsFront-taken : (allowed : Bool) (b : ℕ) (text : List ℕ) (front : Front) → IsFront allowed b text front → 0 < taken front
IsFront-taken allowed b text AtEnd is = absurd is
IsFront-taken allowed b text AtNewLine is = omega arith
IsFront-taken allowed b text AtBlank is = omega arith
IsFront-taken allowed b text (AtComment count) is = is.some
IsFront-taken allowed b text (AtToken kind count) is = is.1.some
IsFront-taken allowed b text AtOpenComment is = omega arith
IsFront-taken allowed b text AtOpenLiteral is = omega arith

-- each but the end takes a byte of the text
pub front-taken :
    (allowed : Bool) (text : List SourceByte) (front : Front) → front ≡ front_of allowed (bytes_of text) → is_end front ≡ false →
    (0 < taken front) × (0 < length text)
unfolding front_of
front-taken allowed [] front is some = absurd (both_ways _ some (ap is_end is))
front-taken allowed (first ∷ rest) front is some = (
  subst (λ f. 0 < taken f) (sym is) (IsFront-taken allowed first.byte (bytes_of rest) _ (front_of-IsFront allowed first.byte (bytes_of rest))),
  omega arith,
)

-- so less is left behind it
pub front-shorter :
    (allowed : Bool) (text rest : List SourceByte) (front : Front) → front ≡ front_of allowed (bytes_of text) → is_end front ≡ false →
    rest ≡ drop (taken front) text → length rest < length text
front-shorter allowed text rest front is some behind =
    let takes = front-taken allowed text front is some in
    omega (arith, takes.0, takes.1, ap length behind, length-drop (taken front) text)

-- a token has a byte of the file
pub token-has_byte : (cursor : Cursor) (allowed : Bool) (kind : TokenKind) (count : ℕ) → AtToken kind count ≡ front_of allowed (ahead cursor) → 0 < length cursor.bytes.now
unfolding front_of
token-has_byte cursor allowed kind count is =
    ⊎_elim
    (λ none. absurd
    (⊎_elim
    (λ is_open. let ends : AtToken kind count ≡ AtNewLine = is ∙ ap (front_of allowed) (ahead-open cursor none is_open) in cc)
    (λ closed. let ends : AtToken kind count ≡ AtEnd = is ∙ ap (front_of allowed) (ahead-closed cursor none closed) in cc)
    (cases_Bool cursor.line_is_open)))
    (λ some. some)
    (cases_zero (length cursor.bytes.now))
  where
    cases_zero : (n : ℕ) → (n ≡ 0) ⊎ (0 < n)
    cases_zero zero = inl refl
    cases_zero (suc n) = inr (omega arith)
