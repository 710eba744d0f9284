-- The plain function gives the tokens that a text has, or its fault.
use Rattle.std.proofs.Common.{◌≡◌, ℕ, Bool, false, List, [], ◌∷◌, ◌++◌, length, take, drop, refl, sym, ap, ◌∙◌, append_assoc}
use Rattle.std.proofs.lemmas.List.{take_at, drop_at}
use Rattle.std.proofs.lemmas.Option.{same_Some}
use Rattle.meaning_text.specs.Logical.{SourceByte, bytes_of}
use Rattle.meaning_text.specs.Comments.{begins_comment}
use Rattle.vocabulary.specs.declared.token_kind.TokenKind.{TokenKind}
use Rattle.meaning_text.specs.Fronts.{AtToken, AtOpenComment, AtOpenLiteral, front_of}
use Rattle.meaning_text.specs.Tokens.{Tok, Gap, gap_text, is_some_gap, Context, allows_header_name, is_line_start, behind_gap, behind_token, BeginsWith, TokensUpTo, IsEnd, Lexes, LexFault, OpenComment, OpenLiteral, IsFaultAt, Opens}
use Rattle.meaning_text.specs.Lexing.{Lexed, Tokens, Refused, with_token, lexed_behind, lexed}
use Rattle.meaning_text.proofs.LexingFronts.{front_of-only_token, front_of-open_comment, front_of-open_literal}
use Rattle.meaning_text.proofs.LexingSteps.{lexed_behind-at}
use Rattle.meaning_text.proofs.LexingGaps.{bytes_of-append, length-bytes_of, lexed_behind-gap}

-- the token that the plain function makes of bytes
abbrev pub token_of : Context → Bool → TokenKind → SourceByte → List ℕ → Tok
token_of context space kind first text =
    record { kind = kind; text = text; at = first.at; space_before = space; line_start = is_line_start context }

-- it stands before what is found behind it
with_token_of :
    (context : Context) (space : Bool) (kind : TokenKind) (first : SourceByte) (spelled rest : List SourceByte) →
    front_of (allows_header_name context) (bytes_of (first ∷ spelled) ++ bytes_of rest) ≡ AtToken kind (length (bytes_of (first ∷ spelled))) →
    lexed_behind context space ((first ∷ spelled) ++ rest)
    ≡ with_token (token_of context space kind first (bytes_of (first ∷ spelled))) (lexed_behind (behind_token context kind (bytes_of (first ∷ spelled))) false rest)
with_token_of context space kind first spelled rest is =
    let count : ℕ = length (bytes_of (first ∷ spelled)) in
    let whole = bytes_of-append (first ∷ spelled) rest in
    lexed_behind-at context space first (spelled ++ rest) _ (ap (front_of (allows_header_name context)) whole ∙ is)
    ∙ ap
    (λ text. with_token (token_of context space kind first text) (lexed_behind (behind_token context kind text) false (drop count ((first ∷ spelled) ++ rest))))
    (ap (take count) whole ∙ take_at (bytes_of (first ∷ spelled)) (bytes_of rest) count refl)
    ∙ ap
    (λ later. with_token (token_of context space kind first (bytes_of (first ∷ spelled)))
    (lexed_behind (behind_token context kind (bytes_of (first ∷ spelled))) false later))
    (drop_at (first ∷ spelled) rest count (sym (length-bytes_of (first ∷ spelled))))

-- the token of a text is the one that the plain function makes
token_of-BeginsWith :
    (context : Context) (text : List SourceByte) (gap : Gap) (token : Tok) (first : SourceByte) (spelled rest : List SourceByte) →
    BeginsWith context text gap token (first ∷ spelled) rest →
    token_of (behind_gap context gap) (is_some_gap gap) token.kind first (bytes_of (first ∷ spelled)) ≡ token
token_of-BeginsWith context text gap token first spelled rest begins =
    let place = same_Some first.at token.at begins.place in
    λ i. record { kind = token.kind; text = begins.spelling i; at = place i; space_before = begins.space_before i; line_start = begins.line_start i }

lexed_behind-BeginsWith :
    (context : Context) (text : List SourceByte) (gap : Gap) (token : Tok) (spelled rest : List SourceByte) → BeginsWith context text gap token spelled rest →
    lexed_behind context false text ≡ with_token token (lexed_behind (behind_token (behind_gap context gap) token.kind token.text) false rest)
lexed_behind-BeginsWith context text gap token [] rest begins = let place = begins.place in cc
lexed_behind-BeginsWith context text gap token (first ∷ spelled) rest begins =
    let here : Context = behind_gap context gap in
    let front =
    front_of-only_token (allows_header_name here) (bytes_of (first ∷ spelled)) (bytes_of rest) token.kind
    (ap begins_comment (sym (bytes_of-append (first ∷ spelled) rest)) ∙ begins.no_comment) begins.kind begins.longest in
    ap (lexed_behind context false) (begins.split ∙ append_assoc (gap_text gap) (first ∷ spelled) rest)
    ∙ lexed_behind-gap context false gap ((first ∷ spelled) ++ rest) begins.is_gap
    ∙ with_token_of here (is_some_gap gap) token.kind first spelled rest front
    ∙ ap (λ made. with_token made (lexed_behind (behind_token here token.kind (bytes_of (first ∷ spelled))) false rest))
    (token_of-BeginsWith context text gap token first spelled rest begins)
    ∙ ap (λ spelling. with_token token (lexed_behind (behind_token here token.kind spelling) false rest)) begins.spelling

-- these tokens before what is found behind them
abbrev with_tokens : List Tok → Lexed → Lexed
with_tokens [] answer = answer
with_tokens (token ∷ tokens) answer = with_token token (with_tokens tokens answer)

-- where each such end has one answer, the tokens stand before it
lexed_behind-TokensUpTo :
    (End : Context → List SourceByte → Type 0) (answer : Lexed) →
    ((context : Context) (space : Bool) (rest : List SourceByte) → End context rest → lexed_behind context space rest ≡ answer) →
    (context : Context) (text : List SourceByte) (tokens : List Tok) → TokensUpTo End context text tokens → lexed context text ≡ with_tokens tokens answer
lexed_behind-TokensUpTo End answer ends context text [] is =
    ap (lexed_behind context false) is.2 ∙ lexed_behind-gap context false is.0 is.1 is.3 ∙ ends (behind_gap context is.0) (is_some_gap is.0) is.1 is.4
lexed_behind-TokensUpTo End answer ends context text (token ∷ tokens) is =
    lexed_behind-BeginsWith context text is.0 token is.1 is.2 is.3
    ∙ ap (with_token token) (lexed_behind-TokensUpTo End answer ends (behind_token (behind_gap context is.0) token.kind token.text) is.2 tokens is.4)

with_tokens-Tokens : (tokens : List Tok) → with_tokens tokens (Tokens []) ≡ Tokens tokens
with_tokens-Tokens [] = refl
with_tokens-Tokens (token ∷ tokens) = ap (with_token token) (with_tokens-Tokens tokens)

with_tokens-Refused : (tokens : List Tok) (fault : LexFault) → with_tokens tokens (Refused fault) ≡ Refused fault
with_tokens-Refused [] fault = refl
with_tokens-Refused (token ∷ tokens) fault = ap (with_token token) (with_tokens-Refused tokens fault)

lexed_behind-IsEnd : (context : Context) (space : Bool) (rest : List SourceByte) → IsEnd context rest → lexed_behind context space rest ≡ Tokens []
lexed_behind-IsEnd context space rest end = ap (lexed_behind context space) end

lexed_behind-IsFaultAt :
    (fault : LexFault) (context : Context) (space : Bool) (rest : List SourceByte) → IsFaultAt fault context rest → lexed_behind context space rest ≡ Refused fault
lexed_behind-IsFaultAt fault context space [] is = absurd is
lexed_behind-IsFaultAt (OpenComment at) context space (b ∷ rest) is =
    lexed_behind-at context space b rest AtOpenComment (front_of-open_comment (allows_header_name context) b.byte (bytes_of rest) is.1 is.2)
    ∙ ap (λ place. Refused (OpenComment place)) is.0
lexed_behind-IsFaultAt (OpenLiteral at) context space (b ∷ rest) is =
    lexed_behind-at context space b rest AtOpenLiteral (front_of-open_literal (allows_header_name context) b.byte (bytes_of rest) is.1 is.2)
    ∙ ap (λ place. Refused (OpenLiteral place)) is.0

pub lexed-Lexes : (context : Context) (text : List SourceByte) (tokens : List Tok) → Lexes context text tokens → lexed context text ≡ Tokens tokens
lexed-Lexes context text tokens lexes =
    lexed_behind-TokensUpTo IsEnd (Tokens []) lexed_behind-IsEnd context text tokens lexes ∙ with_tokens-Tokens tokens

pub lexed-Opens : (context : Context) (text : List SourceByte) (fault : LexFault) → Opens context text fault → lexed context text ≡ Refused fault
lexed-Opens context text fault opens =
    lexed_behind-TokensUpTo (IsFaultAt fault) (Refused fault) (lexed_behind-IsFaultAt fault) context text opens.0 opens.1
    ∙ with_tokens-Refused opens.0 fault
