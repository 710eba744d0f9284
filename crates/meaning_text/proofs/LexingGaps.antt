-- White space and comments between tokens, in the relation and in the plain function.
use Rattle.std.proofs.Common.{◌≡◌, Bool, true, false, ◌==◌, ◌||◌, List, [], ◌∷◌, ◌++◌, length, ⊎_elim, refl, sym, ap, ◌∙◌, append_assoc, if◌then◌else◌}
use Rattle.std.specs.List.{list_any}
use Rattle.std.proofs.Math.Bool.{or-false}
use Rattle.std.proofs.lemmas.Bool.{cases_Bool, both_ways, and_parts, or_cases, or_right}
use Rattle.std.proofs.lemmas.List.{drop_at, map-append, length-map, append-nil}
use Rattle.std.proofs.lemmas.List.Folds.{list_any-append}
use Rattle.meaning_text.specs.Bytes.{new_line, is_blank, is_white}
use Rattle.meaning_text.specs.Logical.{SourceByte, bytes_of}
use Rattle.meaning_text.specs.Comments.{is_line_comment, is_line_end}
use Rattle.meaning_text.specs.Fronts.{AtNewLine, AtBlank, AtComment, front_of}
use Rattle.meaning_text.specs.Tokens.{Piece, White, LineComment, BlockComment, piece_text, is_piece, ends_line, Gap, gap_text, IsGap, is_some_gap, Context, AtLineStart, allows_header_name, behind_gap}
use Rattle.meaning_text.specs.Lexing.{lexed_behind}
use Rattle.meaning_text.proofs.LexingFronts.{front_of-new_line, front_of-blank, front_of-only_line_comment, front_of-only_block_comment}
use Rattle.meaning_text.proofs.LexingSteps.{lexed_behind-at}

abbrev pub behind_piece : Context → Piece → Context
behind_piece context piece = if ends_line piece then AtLineStart else context

pub bytes_of-append : (text rest : List SourceByte) → bytes_of (text ++ rest) ≡ bytes_of text ++ bytes_of rest
bytes_of-append text rest = map-append _ text rest

pub length-bytes_of : (text : List SourceByte) → length (bytes_of text) ≡ length text
length-bytes_of text = length-map text _

-- One piece

white_piece :
    (context : Context) (space : Bool) (b : SourceByte) (rest : List SourceByte) → is_white b.byte ≡ true →
    lexed_behind context space (b ∷ rest) ≡ lexed_behind (behind_piece context (White b)) true rest
white_piece context space b rest white =
    ⊎_elim
    (λ new.
    lexed_behind-at context space b rest AtNewLine (front_of-new_line _ b.byte (bytes_of rest) new)
    ∙ ap (λ ends. lexed_behind (if ends then AtLineStart else context) true rest) (sym new))
    (λ same.
    let blank : is_blank b.byte ≡ true = ⊎_elim (λ is. is) (λ new. absurd (both_ways _ same new)) (or_cases (is_blank b.byte) (b.byte == new_line) white) in
    lexed_behind-at context space b rest AtBlank (front_of-blank _ b.byte (bytes_of rest) same blank)
    ∙ ap (λ ends. lexed_behind (if ends then AtLineStart else context) true rest) (sym same))
    (cases_Bool (b.byte == new_line))

comment_piece :
    (context : Context) (space : Bool) (first : SourceByte) (text rest : List SourceByte) →
    front_of (allows_header_name context) (bytes_of (first ∷ text) ++ bytes_of rest) ≡ AtComment (length (bytes_of (first ∷ text))) →
    lexed_behind context space ((first ∷ text) ++ rest) ≡ lexed_behind context true rest
comment_piece context space first text rest is =
    lexed_behind-at context space first (text ++ rest) _ (ap (front_of (allows_header_name context)) (bytes_of-append (first ∷ text) rest) ∙ is)
    ∙ ap (lexed_behind context true) (drop_at (first ∷ text) rest (length (bytes_of (first ∷ text))) (sym (length-bytes_of (first ∷ text))))

pub lexed_behind-piece :
    (context : Context) (space : Bool) (piece : Piece) (rest : List SourceByte) → is_piece piece rest ≡ true →
    lexed_behind context space (piece_text piece ++ rest) ≡ lexed_behind (behind_piece context piece) true rest
lexed_behind-piece context space (White b) rest is = white_piece context space b rest is
lexed_behind-piece context space (LineComment []) rest is = cc
lexed_behind-piece context space (LineComment (first ∷ text)) rest is =
    let parts = and_parts (is_line_comment (bytes_of (first ∷ text))) (is_line_end (bytes_of rest)) is in
    comment_piece context space first text rest (front_of-only_line_comment _ (bytes_of (first ∷ text)) (bytes_of rest) parts.0 parts.1)
lexed_behind-piece context space (BlockComment []) rest is = cc
lexed_behind-piece context space (BlockComment (first ∷ text)) rest is =
    comment_piece context space first text rest (front_of-only_block_comment _ (bytes_of (first ∷ text)) (bytes_of rest) is)

-- Gaps

-- a line that ended before or ends here has ended
ended_by_either :
    (before here : Bool) (context : Context) →
    (if here then AtLineStart else (if before then AtLineStart else context)) ≡ (if before || here then AtLineStart else context)
ended_by_either true true context = refl
ended_by_either true false context = refl
ended_by_either false here context = refl

-- the tokens of a text with a gap in front
pub lexed_behind-gap :
    (context : Context) (space : Bool) (gap : Gap) (rest : List SourceByte) → IsGap gap rest →
    lexed_behind context space (gap_text gap ++ rest) ≡ lexed_behind (behind_gap context gap) (space || is_some_gap gap) rest
lexed_behind-gap context space [] rest is = ap (λ spaced. lexed_behind context spaced rest) (sym (or-false space))
lexed_behind-gap context space (piece ∷ gap) rest is =
    ap (lexed_behind context space) (append_assoc (piece_text piece) (gap_text gap) rest)
    ∙ lexed_behind-piece context space piece (gap_text gap ++ rest) is.0
    ∙ lexed_behind-gap (behind_piece context piece) true gap rest is.1
    ∙ ap (λ later. lexed_behind later true rest) (ended_by_either (ends_line piece) (list_any ends_line gap) context)
    ∙ ap (λ spaced. lexed_behind (behind_gap context (piece ∷ gap)) spaced rest) (sym (or_right space true refl))

-- One piece more behind a gap

pub gap_text-more : (gap : Gap) (piece : Piece) (rest : List SourceByte) → gap_text (gap ++ piece ∷ []) ++ rest ≡ gap_text gap ++ (piece_text piece ++ rest)
gap_text-more [] piece rest = ap (λ text. text ++ rest) (append-nil (piece_text piece))
gap_text-more (before ∷ gap) piece rest =
    append_assoc (piece_text before) _ rest
    ∙ ap (λ text. piece_text before ++ text) (gap_text-more gap piece rest)
    ∙ sym (append_assoc (piece_text before) (gap_text gap) (piece_text piece ++ rest))

pub IsGap-more : (gap : Gap) (piece : Piece) (rest : List SourceByte) → IsGap gap (piece_text piece ++ rest) → is_piece piece rest ≡ true → IsGap (gap ++ piece ∷ []) rest
IsGap-more [] piece rest is last = (last, tt)
IsGap-more (before ∷ gap) piece rest is last =
    (ap (is_piece before) (gap_text-more gap piece rest) ∙ is.0, IsGap-more gap piece rest is.1 last)

pub is_some_gap-more : (gap : Gap) (piece : Piece) → is_some_gap (gap ++ piece ∷ []) ≡ true
is_some_gap-more [] piece = refl
is_some_gap-more (before ∷ gap) piece = refl

pub behind_gap-more : (context : Context) (gap : Gap) (piece : Piece) → behind_gap context (gap ++ piece ∷ []) ≡ behind_piece (behind_gap context gap) piece
behind_gap-more context gap piece =
    ap (λ ends. if ends then AtLineStart else context) (list_any-append ends_line gap (piece ∷ []))
    ∙ ap (λ here. if list_any ends_line gap || here then AtLineStart else context) (or-false (ends_line piece))
    ∙ sym (ended_by_either (list_any ends_line gap) (ends_line piece) context)
