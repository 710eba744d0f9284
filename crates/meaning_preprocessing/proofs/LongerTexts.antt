-- The tokens of a text that ends its line, and then of more text.
use Rattle.std.proofs.Common.{◌≡◌, ℕ, zero, suc, ◌-◌, ◌<◌, ◌≤◌, Bool, true, false, not, ◌==◌, ◌&&◌, List, [], ◌∷◌, ◌++◌, length, take, drop, Option, Some, None, ◌⊎◌, inl, inr, refl, sym, ap, ◌∙◌, subst, true≢false, arith, append_assoc, take-append-drop, length-take-le, nat_le, leb-true, leb-false}
use Rattle.std.proofs.lemmas.Bool.{cases_Bool, and_parts, cond-true, cond-false, not-true}
use Rattle.std.proofs.lemmas.Bool.Decides.{nat_tests}
use Rattle.std.proofs.lemmas.List.{drop_at, length-drop}
use Rattle.std.proofs.lemmas.List.Folds.{list_all-append}
use Rattle.vocabulary.specs.declared.token_kind.TokenKind.{TokenKind}
use Rattle.meaning_text.specs.Bytes.{new_line, star, slash}
use Rattle.meaning_text.specs.Logical.{SourceByte, bytes_of}
use Rattle.meaning_text.specs.Comments.{begins_comment, begins_line_comment, begins_block_comment, ends_block, is_block_comment, is_line_comment, is_line_end}
use Rattle.meaning_text.specs.Quoted.{is_empty}
use Rattle.meaning_text.specs.Kinds.{kind_in}
use Rattle.meaning_text.specs.Fronts.{Front, AtEnd, AtNewLine, AtBlank, AtComment, AtToken, AtOpenComment, AtOpenLiteral, front_of}
use Rattle.meaning_text.specs.Tokens.{Tok, Context, AtLineStart, allows_header_name, is_line_start, behind_token, IsLongest}
use Rattle.meaning_text.specs.Lexing.{Lexed, Tokens, Refused, with_token, lexed_front, lexed_behind}
use Rattle.meaning_text.proofs.FrontFacts.{IsLongestFront}
use Rattle.meaning_text.proofs.LexingFronts.{IsCommentFront, IsFront, front_of-IsFront, front_of-new_line, front_of-blank, front_of-only_line_comment, front_of-only_block_comment, front_of-only_token, IsLongestFront-IsLongest}
use Rattle.meaning_text.proofs.LexingSteps.{lexed_behind-at}
use Rattle.meaning_text.proofs.LexingGaps.{bytes_of-append, length-bytes_of}
use Rattle.meaning_preprocessing.proofs.InLine.{is_in_line, kind_in-in_line}

-- the last byte is a new-line
abbrev pub ClosesItsLine : List SourceByte → Type 0
ClosesItsLine [] = ⊥
ClosesItsLine (b ∷ []) = (b.byte == new_line) ≡ true
ClosesItsLine (b ∷ c ∷ text) = ClosesItsLine (c ∷ text)

-- behind another byte it is closed later
closes_behind : (b : SourceByte) (text : List SourceByte) → (b.byte == new_line) ≡ false → ClosesItsLine (b ∷ text) → ClosesItsLine text
closes_behind b [] inside closes = true≢false (sym closes ∙ inside)
closes_behind b (c ∷ text) inside closes = closes

closes_behind_line : (front rest : List SourceByte) → is_in_line (bytes_of front) ≡ true → ClosesItsLine (front ++ rest) → ClosesItsLine rest
closes_behind_line [] rest inside closes = closes
closes_behind_line (b ∷ front) rest inside closes =
    let parts = and_parts (not (b.byte == new_line)) (is_in_line (bytes_of front)) inside in
    closes_behind_line front rest parts.1 (closes_behind b (front ++ rest) (not-true _ parts.0) closes)

no_new_line-slash : (b : ℕ) → (b == slash) ≡ true → (b == new_line) ≡ false
no_new_line-slash b is = grind (arith, nat_tests)

-- a comment ends with a slash
closes_behind_block : (behind_star : Bool) (front rest : List SourceByte) → ends_block behind_star (bytes_of front) ≡ true → ClosesItsLine (front ++ rest)
    → ClosesItsLine rest
closes_behind_block behind_star [] rest ends closes = absurd (true≢false (sym ends))
closes_behind_block behind_star (b ∷ []) rest ends closes =
    elim (cases_Bool (b.byte == slash && behind_star)) [
      | inl last ↦ closes_behind b rest (no_new_line-slash b.byte (and_parts (b.byte == slash) behind_star last).0) closes
      | inr inner ↦ absurd (true≢false (sym ends ∙ cond-false (b.byte == slash && behind_star) true false inner))
    ]
closes_behind_block behind_star (b ∷ c ∷ front) rest ends closes =
    elim (cases_Bool (b.byte == slash && behind_star)) [
      | inl last ↦
          absurd (true≢false (sym ends
          ∙ cond-true (b.byte == slash && behind_star) false (ends_block (b.byte == star) (bytes_of (c ∷ front))) last))
      | inr inner ↦
          closes_behind_block (b.byte == star) (c ∷ front) rest
          (sym (cond-false (b.byte == slash && behind_star) false (ends_block (b.byte == star) (bytes_of (c ∷ front))) inner) ∙ ends) closes
    ]

closes_behind_block_comment : (front rest : List SourceByte) → is_block_comment (bytes_of front) ≡ true → ClosesItsLine (front ++ rest) → ClosesItsLine rest
closes_behind_block_comment [] rest is closes = absurd (true≢false (sym is))
closes_behind_block_comment (b ∷ []) rest is closes = absurd (true≢false (sym is))
closes_behind_block_comment (b ∷ c ∷ []) rest is closes =
    absurd (true≢false (sym (and_parts (begins_block_comment (b.byte ∷ c.byte ∷ [])) false is).1))
closes_behind_block_comment (b ∷ c ∷ d ∷ front) rest is closes =
    closes_behind_block false (d ∷ front) rest
    (and_parts (begins_block_comment (b.byte ∷ c.byte ∷ d.byte ∷ bytes_of front)) (ends_block false (bytes_of (d ∷ front))) is).1 closes

closes_behind_comment : (front rest : List SourceByte)
    → ((is_line_comment (bytes_of front) ≡ true) × (is_line_end (bytes_of rest) ≡ true)) ⊎ (is_block_comment (bytes_of front) ≡ true)
    → ClosesItsLine (front ++ rest) → ClosesItsLine rest
closes_behind_comment front rest (inl line) closes =
    closes_behind_line front rest (and_parts (begins_line_comment (bytes_of front)) (is_in_line (bytes_of front)) line.0).1 closes
closes_behind_comment front rest (inr block) closes = closes_behind_block_comment front rest block closes

-- Fronts

-- a line ends where it ended, whatever stands behind it
line_end-more : (rest more : List SourceByte) → ClosesItsLine rest → is_line_end (bytes_of rest) ≡ true → is_line_end (bytes_of (rest ++ more)) ≡ true
line_end-more [] more closes ends = absurd closes
line_end-more (b ∷ rest) more closes ends = ends

comment-more : (allowed : Bool) (front rest more : List SourceByte)
    → ((is_line_comment (bytes_of front) ≡ true) × (is_line_end (bytes_of rest) ≡ true)) ⊎ (is_block_comment (bytes_of front) ≡ true)
    → ClosesItsLine rest → front_of allowed (bytes_of (front ++ (rest ++ more))) ≡ AtComment (length (bytes_of front))
comment-more allowed front rest more (inl line) closes =
    ap (front_of allowed) (bytes_of-append front (rest ++ more))
    ∙ front_of-only_line_comment allowed (bytes_of front) (bytes_of (rest ++ more)) line.0 (line_end-more rest more closes line.1)
comment-more allowed front rest more (inr block) closes =
    ap (front_of allowed) (bytes_of-append front (rest ++ more))
    ∙ front_of-only_block_comment allowed (bytes_of front) (bytes_of (rest ++ more)) block

-- a spelling through the end of a line has no kind
no_kind : (found : Option TokenKind) → ((kind : TokenKind) → found ≡ Some kind → ⊥) → found ≡ None
no_kind None refuted = refl
no_kind (Some kind) refuted = absurd (refuted kind refl)

in_line_parts : (front rest : List ℕ) → is_in_line (front ++ rest) ≡ true → (is_in_line front ≡ true) × (is_in_line rest ≡ true)
in_line_parts front rest is =
    and_parts (is_in_line front) (is_in_line rest) (sym (list_all-append (λ (b : ℕ). not (b == new_line)) front rest) ∙ is)

closes_no_line : (text : List SourceByte) → ClosesItsLine text → is_in_line (bytes_of text) ≡ true → ⊥
closes_no_line [] closes is = closes
closes_no_line (b ∷ []) closes is = true≢false (sym closes ∙ not-true _ (and_parts (not (b.byte == new_line)) true is).0)
closes_no_line (b ∷ c ∷ text) closes is =
    closes_no_line (c ∷ text) closes (and_parts (not (b.byte == new_line)) (is_in_line (bytes_of (c ∷ text))) is).1

take_within : (k : ℕ) (rest more : List ℕ) → k ≤ length rest → take k (rest ++ more) ≡ take k rest
take_within zero rest more within = refl
take_within (suc k) [] more within = absurd (omega (arith, within))
take_within (suc k) (b ∷ rest) more within = ap (λ (text : List ℕ). b ∷ text) (take_within k rest more (omega (arith, within)))

take_beyond : (k : ℕ) (rest more : List ℕ) → length rest ≤ k → take k (rest ++ more) ≡ rest ++ take (k - length rest) more
take_beyond k [] more within = ap (λ (n : ℕ). take n more) (omega arith)
take_beyond zero (b ∷ rest) more within = absurd (omega (arith, within))
take_beyond (suc k) (b ∷ rest) more within =
    let same : k - length rest ≡ suc k - suc (length rest) = omega arith in
    ap (λ (text : List ℕ). b ∷ text) (take_beyond k rest more (omega (arith, within)) ∙ ap (λ (n : ℕ). rest ++ take n more) same)

longest-more : (allowed : Bool) (spelled : List ℕ) (rest : List SourceByte) (more : List ℕ) → ClosesItsLine rest → IsLongest allowed spelled (bytes_of rest)
    → IsLongest allowed spelled (bytes_of rest ++ more)
longest-more allowed spelled rest more closes longest k some within =
    elim (cases_Bool (nat_le k (length (bytes_of rest)))) [
      | inl short ↦
          ap (λ (text : List ℕ). kind_in allowed (spelled ++ text)) (take_within k (bytes_of rest) more (leb-true k (length (bytes_of rest)) short))
          ∙ longest k some (leb-true k (length (bytes_of rest)) short)
      | inr long ↦
          no_kind (kind_in allowed (spelled ++ take k (bytes_of rest ++ more))) (λ kind is.
          let whole = in_line_parts spelled (take k (bytes_of rest ++ more)) (kind_in-in_line allowed (spelled ++ take k (bytes_of rest ++ more)) kind is) in
          let split = take_beyond k (bytes_of rest) more (omega (arith, leb-false k (length (bytes_of rest)) long)) in
          closes_no_line rest closes
          (in_line_parts (bytes_of rest) (take (k - length (bytes_of rest)) more) (ap is_in_line (sym split) ∙ whole.1)).0)
    ]

-- the bytes that tell whether a comment begins are there
no_comment-more : (front : List ℕ) (b : ℕ) (rest more : List ℕ) → 0 < length front → begins_comment (front ++ (b ∷ rest)) ≡ false
    → begins_comment (front ++ (b ∷ (rest ++ more))) ≡ false
no_comment-more [] b rest more some none = absurd (omega (arith, some))
no_comment-more (c ∷ []) b rest more some none = none
no_comment-more (c ∷ d ∷ front) b rest more some none = none

no_comment_behind : (front : List ℕ) (rest more : List SourceByte) → 0 < length front → ClosesItsLine rest → begins_comment (front ++ bytes_of rest) ≡ false
    → begins_comment (front ++ bytes_of (rest ++ more)) ≡ false
no_comment_behind front [] more some closes none = absurd closes
no_comment_behind front (b ∷ rest) more some closes none =
    ap (λ (text : List ℕ). begins_comment (front ++ text)) (bytes_of-append (b ∷ rest) more)
    ∙ no_comment-more front b.byte (bytes_of rest) (bytes_of more) some none

token-more : (allowed : Bool) (front rest more : List SourceByte) (kind : TokenKind) → ClosesItsLine rest → 0 < length (bytes_of front)
    → begins_comment (bytes_of front ++ bytes_of rest) ≡ false → IsLongestFront allowed (bytes_of front ++ bytes_of rest) kind (length (bytes_of front))
    → front_of allowed (bytes_of (front ++ (rest ++ more))) ≡ AtToken kind (length (bytes_of front))
token-more allowed front rest more kind closes some none is =
    let longest = IsLongestFront-IsLongest allowed (bytes_of front) (bytes_of rest) kind is in
    ap (front_of allowed) (bytes_of-append front (rest ++ more))
    ∙ front_of-only_token allowed (bytes_of front) (bytes_of (rest ++ more)) kind (no_comment_behind (bytes_of front) rest more some closes none) longest.0
    (subst (IsLongest allowed (bytes_of front)) (sym (bytes_of-append rest more)) (longest-more allowed (bytes_of front) rest (bytes_of more) closes longest.1))

-- Texts

-- these tokens before what is found behind them
abbrev pub with_tokens : List Tok → Lexed → Lexed
with_tokens [] answer = answer
with_tokens (token ∷ tokens) answer = with_token token (with_tokens tokens answer)

-- what is found of a text that closes its line goes before what is found of more text
abbrev pub GoesBefore : List SourceByte → Context → Bool → List SourceByte → Type 0
GoesBefore more context space text =
    (tokens : List Tok) → lexed_behind context space text ≡ Tokens tokens
    → lexed_behind context space (text ++ more) ≡ with_tokens tokens (lexed_behind AtLineStart true more)

-- what the front makes of the tokens behind it
abbrev GoesBeforeTo : ℕ → List SourceByte → Type 0
GoesBeforeTo most more = (context : Context) (space : Bool) (text : List SourceByte) → length text ≤ most → ClosesItsLine text → GoesBefore more context space text

abbrev pub tokens_in : Lexed → List Tok
tokens_in (Tokens tokens) = tokens
tokens_in (Refused fault) = []

pub same_tokens : (tokens others : List Tok) → Tokens tokens ≡ Tokens others → tokens ≡ others
same_tokens tokens others e = ap tokens_in e

-- behind a new-line
line_behind : (most : ℕ) (more : List SourceByte) → GoesBeforeTo most more → (first : SourceByte) (rest : List SourceByte) → length rest ≤ most
    → ClosesItsLine (first ∷ rest) → GoesBefore more AtLineStart true rest
line_behind most more goes first [] within closes tokens is = ap (λ (all : List Tok). with_tokens all (lexed_behind AtLineStart true more)) (same_tokens [] tokens is)
line_behind most more goes first (b ∷ rest) within closes tokens is = goes AtLineStart true (b ∷ rest) within closes tokens is

-- behind a token
token_behind : (token : Tok) (found : Lexed) (tokens : List Tok) (more all : Lexed)
    → ((others : List Tok) → found ≡ Tokens others → all ≡ with_tokens others more) → with_token token found ≡ Tokens tokens
    → with_token token all ≡ with_tokens tokens more
token_behind token (Tokens others) tokens more all goes is =
    ap (with_token token) (goes others refl) ∙ ap (λ (every : List Tok). with_tokens every more) (same_tokens (token ∷ others) tokens is)
token_behind token (Refused fault) tokens more all goes is = cc

-- the text in two
record IsSplit (count : ℕ) (text front rest : List SourceByte) : Type 0 where
  is_front : take count text ≡ front
  is_rest : drop count text ≡ rest
  whole : front ++ rest ≡ text
  so_many : length (bytes_of front) ≡ count

split_at : (count : ℕ) (text : List SourceByte) → count ≤ length (bytes_of text) → IsSplit count text (take count text) (drop count text)
split_at count text within =
    record {
      is_front = refl;
      is_rest = refl;
      whole = take-append-drop count text;
      so_many = length-bytes_of (take count text) ∙ length-take-le count text (omega (arith, within, length-bytes_of text));
    }

bytes_of-take : (count : ℕ) (text : List SourceByte) → bytes_of (take count text) ≡ take count (bytes_of text)
bytes_of-take zero text = refl
bytes_of-take (suc count) [] = refl
bytes_of-take (suc count) (b ∷ text) = ap (λ (all : List ℕ). b.byte ∷ all) (bytes_of-take count text)

bytes_of-drop : (count : ℕ) (text : List SourceByte) → bytes_of (drop count text) ≡ drop count (bytes_of text)
bytes_of-drop zero text = refl
bytes_of-drop (suc count) [] = refl
bytes_of-drop (suc count) (b ∷ text) = bytes_of-drop count text

-- how many bytes are left behind a front
fewer_left : (most count : ℕ) (first : SourceByte) (rest : List SourceByte) → length rest ≤ most → 0 < count → length (drop count (first ∷ rest)) ≤ most
fewer_left most count first rest within some = omega (arith, within, some, length-drop count (first ∷ rest))

comment_front : (most : ℕ) (more : List SourceByte) → GoesBeforeTo most more → (context : Context) (space : Bool) (first : SourceByte) (rest : List SourceByte)
    → length rest ≤ most → ClosesItsLine (first ∷ rest) → (count : ℕ) → IsCommentFront (bytes_of (first ∷ rest)) count → (tokens : List Tok)
    → lexed_behind context true (drop count (first ∷ rest)) ≡ Tokens tokens
    → lexed_behind context space ((first ∷ rest) ++ more) ≡ with_tokens tokens (lexed_behind AtLineStart true more)
comment_front most more goes context space first rest within closes count is tokens found =
    let text : List SourceByte = first ∷ rest in
    let front : List SourceByte = take count text in
    let left : List SourceByte = drop count text in
    let parts = split_at count text is.within in
    let kind : ((is_line_comment (bytes_of front) ≡ true) × (is_line_end (bytes_of left) ≡ true)) ⊎ (is_block_comment (bytes_of front) ≡ true) =
    subst (λ (x : List ℕ). ((is_line_comment x ≡ true) × (is_line_end (bytes_of left) ≡ true)) ⊎ (is_block_comment x ≡ true)) (sym (bytes_of-take count text))
    (subst (λ (x : List ℕ). ((is_line_comment (take count (bytes_of text)) ≡ true) × (is_line_end x ≡ true)) ⊎ (is_block_comment (take count (bytes_of text)) ≡ true))
    (sym (bytes_of-drop count text)) is.comment) in
    let later : ClosesItsLine left = closes_behind_comment front left kind (subst ClosesItsLine (sym parts.whole) closes) in
    let all : text ++ more ≡ front ++ (left ++ more) = ap (λ (x : List SourceByte). x ++ more) (sym parts.whole) ∙ append_assoc front left more in
    lexed_behind-at context space first (rest ++ more) (AtComment count)
    (ap (λ (x : List SourceByte). front_of (allows_header_name context) (bytes_of x)) all
    ∙ comment-more (allows_header_name context) front left more kind later ∙ ap AtComment parts.so_many)
    ∙ ap (λ (x : List SourceByte). lexed_behind context true (drop count x)) all
    ∙ ap (lexed_behind context true) (drop_at front (left ++ more) count (sym (length-bytes_of front) ∙ parts.so_many))
    ∙ goes context true left (fewer_left most count first rest within is.some) later tokens found

-- the token of a front
abbrev front_token : Context → Bool → TokenKind → SourceByte → List ℕ → Tok
front_token context space kind first text =
    record { kind = kind; text = text; at = first.at; space_before = space; line_start = is_line_start context }

token_front : (most : ℕ) (more : List SourceByte) → GoesBeforeTo most more → (context : Context) (space : Bool) (first : SourceByte) (rest : List SourceByte)
    → length rest ≤ most → ClosesItsLine (first ∷ rest) → (kind : TokenKind) (count : ℕ) → begins_comment (bytes_of (first ∷ rest)) ≡ false
    → IsLongestFront (allows_header_name context) (bytes_of (first ∷ rest)) kind count → (tokens : List Tok)
    → lexed_front lexed_behind context space first rest (AtToken kind count) ≡ Tokens tokens
    → lexed_behind context space ((first ∷ rest) ++ more) ≡ with_tokens tokens (lexed_behind AtLineStart true more)
token_front most more goes context space first rest within closes kind count none is tokens found =
    let text : List SourceByte = first ∷ rest in
    let front : List SourceByte = take count text in
    let left : List SourceByte = drop count text in
    let parts = split_at count text is.within in
    let bytes : bytes_of text ≡ bytes_of front ++ bytes_of left = ap bytes_of (sym parts.whole) ∙ bytes_of-append front left in
    let later : ClosesItsLine left =
    closes_behind_line front left
    (kind_in-in_line (allows_header_name context) (bytes_of front) kind (ap (kind_in (allows_header_name context)) (bytes_of-take count text) ∙ is.is_kind))
    (subst ClosesItsLine (sym parts.whole) closes) in
    let all : text ++ more ≡ front ++ (left ++ more) = ap (λ (x : List SourceByte). x ++ more) (sym parts.whole) ∙ append_assoc front left more in
    let spelling : take count (bytes_of (text ++ more)) ≡ take count (bytes_of text) =
    ap (take count) (bytes_of-append text more) ∙ take_within count (bytes_of text) (bytes_of more) is.within in
    let context_behind : Context = behind_token context kind (take count (bytes_of text)) in
    lexed_behind-at context space first (rest ++ more) (AtToken kind count)
    (ap (λ (x : List SourceByte). front_of (allows_header_name context) (bytes_of x)) all
    ∙ token-more (allows_header_name context) front left more kind later (subst (λ (n : ℕ). 0 < n) (sym parts.so_many) is.some)
    (ap begins_comment (sym bytes) ∙ none)
    (subst (λ (n : ℕ). IsLongestFront (allows_header_name context) (bytes_of front ++ bytes_of left) kind n) (sym parts.so_many)
    (subst (λ (x : List ℕ). IsLongestFront (allows_header_name context) x kind count) bytes is))
    ∙ ap (AtToken kind) parts.so_many)
    ∙ ap (λ (x : List ℕ). with_token (front_token context space kind first x) (lexed_behind (behind_token context kind x) false (drop count (text ++ more)))) spelling
    ∙ ap (λ (x : List SourceByte). with_token (front_token context space kind first (take count (bytes_of text))) (lexed_behind context_behind false x))
    (ap (drop count) all ∙ drop_at front (left ++ more) count (sym (length-bytes_of front) ∙ parts.so_many))
    ∙ token_behind (front_token context space kind first (take count (bytes_of text))) (lexed_behind context_behind false left) tokens
    (lexed_behind AtLineStart true more) (lexed_behind context_behind false (left ++ more))
    (goes context_behind false left (fewer_left most count first rest within is.some) later) found

by_front : (most : ℕ) (more : List SourceByte) → GoesBeforeTo most more → (context : Context) (space : Bool) (first : SourceByte) (rest : List SourceByte)
    → length rest ≤ most → ClosesItsLine (first ∷ rest) → (front : Front) → IsFront (allows_header_name context) first.byte (bytes_of rest) front
    → (tokens : List Tok) → lexed_front lexed_behind context space first rest front ≡ Tokens tokens
    → lexed_behind context space ((first ∷ rest) ++ more) ≡ with_tokens tokens (lexed_behind AtLineStart true more)
by_front most more goes context space first rest within closes AtEnd is tokens found = absurd is
by_front most more goes context space first rest within closes AtNewLine is tokens found =
    lexed_behind-at context space first (rest ++ more) AtNewLine (front_of-new_line (allows_header_name context) first.byte (bytes_of (rest ++ more)) is)
    ∙ line_behind most more goes first rest within closes tokens found
by_front most more goes context space first rest within closes AtBlank is tokens found =
    lexed_behind-at context space first (rest ++ more) AtBlank (front_of-blank (allows_header_name context) first.byte (bytes_of (rest ++ more)) is.0 is.1)
    ∙ goes context true rest within (closes_behind first rest is.0 closes) tokens found
by_front most more goes context space first rest within closes (AtComment count) is tokens found =
    comment_front most more goes context space first rest within closes count is tokens found
by_front most more goes context space first rest within closes (AtToken kind count) is tokens found =
    token_front most more goes context space first rest within closes kind count is.0 is.1 tokens found
by_front most more goes context space first rest within closes AtOpenComment is tokens found = cc
by_front most more goes context space first rest within closes AtOpenLiteral is tokens found = cc

goes_before : (most : ℕ) (more : List SourceByte) → GoesBeforeTo most more
goes_before most more context space [] within closes tokens found = absurd closes
goes_before zero more context space (first ∷ rest) within closes tokens found = absurd (omega (arith, within))
goes_before (suc most) more context space (first ∷ rest) within closes tokens found =
    let front : Front = front_of (allows_header_name context) (bytes_of (first ∷ rest)) in
    by_front most more (goes_before most more) context space first rest (omega (arith, within)) closes front
    (front_of-IsFront (allows_header_name context) first.byte (bytes_of rest)) tokens
    (sym (lexed_behind-at context space first rest front refl) ∙ found)

pub lexed-more : (context : Context) (text more : List SourceByte) (tokens : List Tok) → ClosesItsLine text → lexed_behind context false text ≡ Tokens tokens
    → lexed_behind context false (text ++ more) ≡ with_tokens tokens (lexed_behind AtLineStart true more)
lexed-more context text more tokens closes found = goes_before (length text) more context false text (omega arith) closes tokens found
