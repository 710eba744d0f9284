-- A text has the tokens that the plain function gives, or the fault.
use Rattle.std.proofs.Common.{◌≡◌, ℕ, zero, suc, ◌<◌, ◌≤◌, Bool, true, false, ◌==◌, List, [], ◌∷◌, ◌++◌, length, take, drop, Some, ⊎_elim, refl, sym, ap, ◌∙◌, subst, append_assoc, arith, if◌then◌else◌}
use Rattle.std.proofs.lemmas.Bool.{and_from, or_left, or_right}
use Rattle.std.proofs.lemmas.List.{take-append-drop, take-map, drop-map, length-take-le, length-drop}
use Rattle.meaning_text.specs.Bytes.{new_line, is_blank}
use Rattle.meaning_text.specs.Logical.{SourceByte, bytes_of}
use Rattle.meaning_text.specs.Comments.{begins_comment, is_line_comment, is_line_end, is_block_comment}
use Rattle.vocabulary.specs.declared.token_kind.TokenKind.{TokenKind}
use Rattle.meaning_text.specs.Kinds.{kind_in}
use Rattle.meaning_text.specs.Fronts.{Front, AtEnd, AtNewLine, AtBlank, AtComment, AtToken, AtOpenComment, AtOpenLiteral}
use Rattle.meaning_text.specs.Tokens.{Tok, Piece, White, LineComment, BlockComment, piece_text, is_piece, Gap, gap_text, IsGap, is_some_gap, Context, AtLineStart, allows_header_name, behind_gap, behind_token, place_of, IsLongest, BeginsWith, Lexes, Opens}
use Rattle.meaning_text.specs.Lexing.{Lexed, Tokens, Refused, with_token, lexed_front, lexed_behind, lexed}
use Rattle.meaning_text.proofs.FrontFacts.{IsLongestFront}
use Rattle.meaning_text.proofs.LexingFronts.{IsFront, IsCommentFront, front_of-IsFront, IsLongestFront-IsLongest}
use Rattle.meaning_text.proofs.LexingSteps.{lexed_behind-front}
use Rattle.meaning_text.proofs.LexingGaps.{bytes_of-append, length-bytes_of, behind_piece, gap_text-more, IsGap-more, is_some_gap-more, behind_gap-more}
use Rattle.meaning_text.proofs.LexingTokens.{token_of}

-- the text has this answer
abbrev pub HasAnswer : Context → List SourceByte → Lexed → Type 0
HasAnswer context text (Tokens tokens) = Lexes context text tokens
HasAnswer context text (Refused fault) = Opens context text fault

-- each text that is no longer than this has the answer of the plain function, behind any gap
abbrev HaveAnswers : ℕ → Type 0
HaveAnswers most =
    (context : Context) (gap : Gap) (text : List SourceByte) → length text ≤ most → IsGap gap text →
    HasAnswer context (gap_text gap ++ text) (lexed_behind (behind_gap context gap) (is_some_gap gap) text)

-- a token before the answer of what is behind it
HasAnswer-with_token :
    (context : Context) (text : List SourceByte) (gap : Gap) (token : Tok) (spelled rest : List SourceByte) (answer : Lexed) →
    BeginsWith context text gap token spelled rest → HasAnswer (behind_token (behind_gap context gap) token.kind token.text) rest answer →
    HasAnswer context text (with_token token answer)
HasAnswer-with_token context text gap token spelled rest (Tokens tokens) begins has = (gap, spelled, rest, begins, has)
HasAnswer-with_token context text gap token spelled rest (Refused fault) begins has =
    (token ∷ has.0, (gap, spelled, rest, begins, has.1))

-- a piece more of the gap in front
HasAnswer-piece :
    (most : ℕ) (context : Context) (gap : Gap) (piece : Piece) (rest : List SourceByte) → HaveAnswers most → length rest ≤ most →
    IsGap gap (piece_text piece ++ rest) → is_piece piece rest ≡ true →
    HasAnswer context (gap_text gap ++ (piece_text piece ++ rest)) (lexed_behind (behind_piece (behind_gap context gap) piece) true rest)
HasAnswer-piece most context gap piece rest later within is_gap is_piece =
    subst (λ text. HasAnswer context text (lexed_behind (behind_piece (behind_gap context gap) piece) true rest)) (gap_text-more gap piece rest)
    (subst (λ here. HasAnswer context (gap_text (gap ++ piece ∷ []) ++ rest) (lexed_behind here true rest)) (behind_gap-more context gap piece)
    (subst (λ space. HasAnswer context (gap_text (gap ++ piece ∷ []) ++ rest) (lexed_behind (behind_gap context (gap ++ piece ∷ [])) space rest))
    (is_some_gap-more gap piece)
    (later context (gap ++ piece ∷ []) rest within (IsGap-more gap piece rest is_gap is_piece))))

-- white space in front
HasAnswer-white :
    (context : Context) (gap : Gap) (first : SourceByte) (rest : List SourceByte) (ends : Bool) → HaveAnswers (length rest) → IsGap gap (first ∷ rest) →
    (first.byte == new_line) ≡ ends → is_piece (White first) rest ≡ true →
    HasAnswer context (gap_text gap ++ first ∷ rest) (lexed_behind (if ends then AtLineStart else behind_gap context gap) true rest)
HasAnswer-white context gap first rest ends later is_gap is white =
    subst (λ x. HasAnswer context (gap_text gap ++ first ∷ rest) (lexed_behind (if x then AtLineStart else behind_gap context gap) true rest)) is
    (HasAnswer-piece (length rest) context gap (White first) rest later (omega arith) is_gap white)

-- a comment in front
HasAnswer-comment :
    (context : Context) (gap : Gap) (first : SourceByte) (rest : List SourceByte) (count : ℕ) → HaveAnswers (length rest) → IsGap gap (first ∷ rest) →
    IsCommentFront (bytes_of (first ∷ rest)) count →
    HasAnswer context (gap_text gap ++ first ∷ rest) (lexed_behind (behind_gap context gap) true (drop count (first ∷ rest)))
HasAnswer-comment context gap first rest count later is_gap front =
    let text : List SourceByte = first ∷ rest in
    let cut = take-append-drop count text in
    let within : length (drop count text) ≤ length rest = omega (arith, length-drop count text, front.some) in
    let is_gap_cut = subst (IsGap gap) (sym cut) is_gap in
    subst (λ whole. HasAnswer context (gap_text gap ++ whole) (lexed_behind (behind_gap context gap) true (drop count text))) cut
    (⊎_elim
    (λ line. HasAnswer-piece (length rest) context gap (LineComment (take count text)) (drop count text) later within is_gap_cut
    (and_from _ _ (ap is_line_comment (sym (take-map _ count text)) ∙ line.0) (ap is_line_end (sym (drop-map _ count text)) ∙ line.1)))
    (λ block. HasAnswer-piece (length rest) context gap (BlockComment (take count text)) (drop count text) later within is_gap_cut
    (ap is_block_comment (sym (take-map _ count text)) ∙ block))
    front.comment)

-- where a token of so many bytes begins
place_of-take : (count : ℕ) (first : SourceByte) (rest : List SourceByte) → 0 < count → place_of (take count (first ∷ rest)) ≡ Some first.at
place_of-take zero first rest some = absurd (omega arith)
place_of-take (suc count) first rest some = refl

-- the longest token in front, cut from what follows
IsLongest-take :
    (allowed : Bool) (text : List SourceByte) (kind : TokenKind) (count : ℕ) → IsLongestFront allowed (bytes_of text) kind count →
    (kind_in allowed (bytes_of (take count text)) ≡ Some kind) × IsLongest allowed (bytes_of (take count text)) (bytes_of (drop count text))
IsLongest-take allowed text kind count front =
    let spelled : List SourceByte = take count text in
    let rest : List SourceByte = drop count text in
    let whole = ap (λ (t : List SourceByte). bytes_of t) (sym (take-append-drop count text)) ∙ bytes_of-append spelled rest in
    let size = length-bytes_of spelled ∙ length-take-le count text (omega (arith, length-bytes_of text, front.within)) in
    IsLongestFront-IsLongest allowed (bytes_of spelled) (bytes_of rest) kind
    (subst (λ n. IsLongestFront allowed (bytes_of spelled ++ bytes_of rest) kind n) (sym size) (subst (λ t. IsLongestFront allowed t kind count) whole front))

-- a token in front
HasAnswer-token :
    (context : Context) (gap : Gap) (first : SourceByte) (rest : List SourceByte) (kind : TokenKind) (count : ℕ) → HaveAnswers (length rest) → IsGap gap (first ∷ rest) →
    begins_comment (bytes_of (first ∷ rest)) ≡ false → IsLongestFront (allows_header_name (behind_gap context gap)) (bytes_of (first ∷ rest)) kind count →
    HasAnswer context (gap_text gap ++ first ∷ rest)
    (lexed_front lexed_behind (behind_gap context gap) (is_some_gap gap) first rest (AtToken kind count))
HasAnswer-token context gap first rest kind count later is_gap none front =
    let text : List SourceByte = first ∷ rest in
    let spelling : List ℕ = take count (bytes_of text) in
    let here : Context = behind_gap context gap in
    let cut = take-append-drop count text in
    let parts = IsLongest-take (allows_header_name here) text kind count front in
    let within : length (drop count text) ≤ length rest = omega (arith, length-drop count text, front.some) in
    HasAnswer-with_token context (gap_text gap ++ text) gap (token_of here (is_some_gap gap) kind first spelling) (take count text) (drop count text) _
    (record {
      split = ap (λ whole. gap_text gap ++ whole) (sym cut) ∙ sym (append_assoc (gap_text gap) (take count text) (drop count text));
      is_gap = subst (IsGap gap) (sym cut) is_gap;
      no_comment = ap (λ whole. begins_comment (bytes_of whole)) cut ∙ none;
      kind = parts.0;
      longest = parts.1;
      spelling = sym (take-map _ count text);
      place = place_of-take count first rest front.some;
      space_before = refl;
      line_start = refl;
    })
    (later (behind_token here kind spelling) [] (drop count text) within tt)

HasAnswer-front :
    (context : Context) (gap : Gap) (first : SourceByte) (rest : List SourceByte) (front : Front) → HaveAnswers (length rest) → IsGap gap (first ∷ rest) →
    IsFront (allows_header_name (behind_gap context gap)) first.byte (bytes_of rest) front →
    HasAnswer context (gap_text gap ++ first ∷ rest) (lexed_front lexed_behind (behind_gap context gap) (is_some_gap gap) first rest front)
HasAnswer-front context gap first rest AtEnd later is_gap is = absurd is
HasAnswer-front context gap first rest AtNewLine later is_gap is =
    HasAnswer-white context gap first rest true later is_gap is (or_right (is_blank first.byte) _ is)
HasAnswer-front context gap first rest AtBlank later is_gap is =
    HasAnswer-white context gap first rest false later is_gap is.0 (or_left _ (first.byte == new_line) is.1)
HasAnswer-front context gap first rest (AtComment count) later is_gap is = HasAnswer-comment context gap first rest count later is_gap is
HasAnswer-front context gap first rest (AtToken kind count) later is_gap is = HasAnswer-token context gap first rest kind count later is_gap is.0 is.1
HasAnswer-front context gap first rest AtOpenComment later is_gap is = ([], (gap, first ∷ rest, refl, is_gap, (refl, is.0, is.1)))
HasAnswer-front context gap first rest AtOpenLiteral later is_gap is = ([], (gap, first ∷ rest, refl, is_gap, (refl, is.0, is.1)))

have_answers : (most : ℕ) → HaveAnswers most
have_answers most context gap [] within is_gap = (gap, [], refl, is_gap, refl)
have_answers zero context gap (first ∷ rest) within is_gap = absurd (omega arith)
have_answers (suc most) context gap (first ∷ rest) within is_gap =
    subst (HasAnswer context (gap_text gap ++ first ∷ rest)) (sym (lexed_behind-front (behind_gap context gap) (is_some_gap gap) first rest))
    (HasAnswer-front context gap first rest _
    (λ later_context later_gap text shorter is. have_answers most later_context later_gap text (omega arith) is)
    is_gap
    (front_of-IsFront (allows_header_name (behind_gap context gap)) first.byte (bytes_of rest)))

-- each text has the answer of the plain function
pub HasAnswer-lexed : (context : Context) (text : List SourceByte) → HasAnswer context text (lexed context text)
HasAnswer-lexed context text = have_answers (length text) context [] text (omega arith) tt
