-- A file that has more lines behind the one at which its unit ends.
use Rattle.std.proofs.Common.{◌≡◌, ℕ, zero, suc, ◌+◌, ◌≤◌, Bool, true, false, not, ◌==◌, ◌&&◌, List, [], ◌∷◌, ◌++◌, length, take, drop, Option, Some, nat_lt, refl, sym, ap, ◌∙◌, subst, inl, inr, true≢false, arith}
use Rattle.std.proofs.lemmas.Bool.{cases_Bool, and_parts, le-ltb, ltb-false, not-true}
use Rattle.std.proofs.lemmas.Bool.Decides.{nat_tests}
use Rattle.std.proofs.lemmas.List.{length-append}
use Rattle.vocabulary.specs.declared.limit.LimitKind.TheVariants.{FileSize, AllFiles, UnitTokens}
use Rattle.meaning_outside.specs.Files.{FileMap, file_at}
use Rattle.meaning_text.specs.Bytes.{new_line, backslash}
use Rattle.meaning_text.specs.Places.{At, start_of, behind_byte}
use Rattle.meaning_text.specs.Logical.{SourceByte, bytes_of, closing_line, logical_from, logical_text}
use Rattle.meaning_text.specs.Fronts.{Front, AtEnd, AtNewLine, AtBlank, AtComment, AtToken, AtOpenComment, AtOpenLiteral, front_of}
use Rattle.meaning_text.specs.Tokens.{Tok, AtLineStart, LexFault, behind_token}
use Rattle.meaning_text.specs.Lexing.{Lexed, Tokens, Refused, with_token, lexed_front, lexed_within, lexed_behind, lexed_file}
use Rattle.meaning_text.proofs.Lexing.{tokens_are_unique}
use Rattle.meaning_preprocessing.specs.State.{UnitState, paths_with, number_from, Stop, Passes, PieceEnd, Continues, IsOver, Piece, only_ending, and_then}
use Rattle.meaning_preprocessing.specs.Groups.{Evaluation}
use Rattle.meaning_preprocessing.specs.Unit.{Options, Setting, Reader, reader, lexed_piece, text_of_file, file_piece, sized, command_piece, main_piece_of, main_piece, capped, first_state, unit_limits, UnitEnd, Ends, EndsEarly, unit_end, PreprocessedUnit, preprocessed}
use Rattle.meaning_preprocessing.specs.laws.LongerFiles.{may_stop_at_the_end, BreaksOffBefore, BeginsALine, ends_its_line, HasTokens, EndsAsTold, HasMoreLines, LinesBehindTheUnitsEnd}
use Rattle.meaning_preprocessing.proofs.LoadedBefore.{more_loaded, LoadsMore, main-loads, behind_the_same, over_with}
use Rattle.meaning_preprocessing.proofs.LongerParts.{behind_ending-more, tokens_behind_the_end}
use Rattle.meaning_preprocessing.proofs.LongerTexts.{ClosesItsLine, same_tokens, with_tokens, lexed-more}

-- Logical text

-- what comes of a byte with others behind it
abbrev logical_front : Bool → Bool → At → ℕ → ℕ → List ℕ → List SourceByte
logical_front splice open_line at b c bytes =
    elim splice [
      | true ↦ logical_from open_line (behind_byte (behind_byte at b) c) bytes
      | false ↦ record { byte = b; at = at } ∷ logical_from (not (b == new_line)) (behind_byte at b) (c ∷ bytes)
    ]

-- the logical text of more goes behind that of a text that ends its line
abbrev GoesBehind : Bool → At → List ℕ → List ℕ → Type 0
GoesBehind open_line at text more =
    (later : At) × (logical_from open_line at (text ++ more) ≡ logical_from open_line at text ++ logical_from false later more)
    × ClosesItsLine (logical_from open_line at text)

no_backslash : (b : ℕ) → (b == new_line) ≡ true → (b == backslash) ≡ false
no_backslash b is = grind (arith, nat_tests)

closes_more : (b : SourceByte) (text : List SourceByte) → ClosesItsLine text → ClosesItsLine (b ∷ text)
closes_more b [] closes = absurd closes
closes_more b (c ∷ text) closes = closes

last_byte-more : (open_line : Bool) (at : At) (b : ℕ) (more : List ℕ) → (b == new_line) ≡ true
    → logical_from open_line at (b ∷ more) ≡ record { byte = b; at = at } ∷ logical_from false (behind_byte at b) more
last_byte-more open_line at b [] is = ap (λ v. record { byte = b; at = at } ∷ closing_line (not v) (behind_byte at b)) is
last_byte-more open_line at b (c ∷ more) is =
    ap (λ v. logical_front (v && c == new_line) open_line at b c more) (no_backslash b is)
    ∙ ap (λ v. record { byte = b; at = at } ∷ logical_from (not v) (behind_byte at b) (c ∷ more)) is

logical_from-last : (open_line : Bool) (at : At) (b : ℕ) (more : List ℕ) → (b == new_line) ≡ true → GoesBehind open_line at (b ∷ []) more
logical_from-last open_line at b more is = (
  behind_byte at b,
  last_byte-more open_line at b more is
      ∙ ap (λ (text : List SourceByte). text ++ logical_from false (behind_byte at b) more) (sym (last_byte-more open_line at b [] is)),
  subst ClosesItsLine (sym (last_byte-more open_line at b [] is)) is,
)

-- behind a byte that is kept
kept : (open_line : Bool) (at : At) (b c : ℕ) (text more : List ℕ) → (b == backslash && c == new_line) ≡ false
    → GoesBehind (not (b == new_line)) (behind_byte at b) (c ∷ text) more → GoesBehind open_line at (b ∷ c ∷ text) more
kept open_line at b c text more other goes = (
  goes.0,
  ap (λ v. logical_front v open_line at b c (text ++ more)) other
      ∙ ap (λ (all : List SourceByte). record { byte = b; at = at } ∷ all) goes.1
      ∙ ap (λ v. logical_front v open_line at b c text ++ logical_from false goes.0 more) (sym other),
  subst ClosesItsLine (ap (λ v. logical_front v open_line at b c text) (sym other))
      (closes_more (record { byte = b; at = at }) (logical_from (not (b == new_line)) (behind_byte at b) (c ∷ text)) goes.2),
)

-- behind a line that is joined to the next
spliced : (open_line : Bool) (at : At) (b c : ℕ) (text more : List ℕ) → (b == backslash && c == new_line) ≡ true
    → GoesBehind open_line (behind_byte (behind_byte at b) c) text more → GoesBehind open_line at (b ∷ c ∷ text) more
spliced open_line at b c text more splice goes = (
  goes.0,
  ap (λ v. logical_front v open_line at b c (text ++ more)) splice ∙ goes.1
      ∙ ap (λ v. logical_front v open_line at b c text ++ logical_from false goes.0 more) (sym splice),
  subst ClosesItsLine (ap (λ v. logical_front v open_line at b c text) (sym splice)) goes.2,
)

ends_later : (b c : ℕ) (text : List ℕ) → ends_its_line (b ∷ c ∷ text) ≡ true → ends_its_line (c ∷ text) ≡ true
ends_later b c [] is = (and_parts (not (b == backslash)) (c == new_line) is).1
ends_later b c (d ∷ text) is = is

logical_from-more : (open_line : Bool) (at : At) (text more : List ℕ) → ends_its_line text ≡ true → GoesBehind open_line at text more
logical_from-more open_line at [] more is = absurd (true≢false (sym is))
logical_from-more open_line at (b ∷ []) more is = logical_from-last open_line at b more is
logical_from-more open_line at (b ∷ c ∷ []) more is =
    let parts = and_parts (not (b == backslash)) (c == new_line) is in
    kept open_line at b c [] more (ap (λ v. v && c == new_line) (not-true _ parts.0))
    (logical_from-last (not (b == new_line)) (behind_byte at b) c more parts.1)
logical_from-more open_line at (b ∷ c ∷ d ∷ text) more is =
    elim (cases_Bool (b == backslash && c == new_line)) [
      | inl splice ↦
          spliced open_line at b c (d ∷ text) more splice
          (logical_from-more open_line (behind_byte (behind_byte at b) c) (d ∷ text) more (ends_later c d text is))
      | inr other ↦
          kept open_line at b c (d ∷ text) more other
          (logical_from-more (not (b == new_line)) (behind_byte at b) (c ∷ d ∷ text) more is)
    ]

-- Tokens

begins_with_token : (t : Tok) (found : Lexed) (tokens : List Tok) → t.line_start ≡ true → with_token t found ≡ Tokens tokens → BeginsALine tokens
begins_with_token t (Tokens others) tokens first is = subst BeginsALine (same_tokens (t ∷ others) tokens is) first
begins_with_token t (Refused fault) tokens first is = cc

begins_with_front : (fronts : ℕ)
    → ((space : Bool) (text : List SourceByte) (tokens : List Tok) → lexed_within fronts AtLineStart space text ≡ Tokens tokens → BeginsALine tokens)
    → (space : Bool) (first : SourceByte) (rest : List SourceByte) (front : Front) (tokens : List Tok)
    → lexed_front (lexed_within fronts) AtLineStart space first rest front ≡ Tokens tokens → BeginsALine tokens
begins_with_front fronts later space first rest AtEnd tokens is = subst BeginsALine (same_tokens [] tokens is) tt
begins_with_front fronts later space first rest AtNewLine tokens is = later true rest tokens is
begins_with_front fronts later space first rest AtBlank tokens is = later true rest tokens is
begins_with_front fronts later space first rest (AtComment count) tokens is = later true (drop count (first ∷ rest)) tokens is
begins_with_front fronts later space first rest (AtToken kind count) tokens is =
    begins_with_token
    (record { kind = kind; text = take count (bytes_of (first ∷ rest)); at = first.at; space_before = space; line_start = true })
    (lexed_within fronts (behind_token AtLineStart kind (take count (bytes_of (first ∷ rest)))) false (drop count (first ∷ rest))) tokens refl is
begins_with_front fronts later space first rest AtOpenComment tokens is = cc
begins_with_front fronts later space first rest AtOpenLiteral tokens is = cc

-- behind the end of a line another begins
begins_a_line : (fronts : ℕ) (space : Bool) (text : List SourceByte) (tokens : List Tok) → lexed_within fronts AtLineStart space text ≡ Tokens tokens
    → BeginsALine tokens
begins_a_line fronts space [] tokens is = subst BeginsALine (same_tokens [] tokens is) tt
begins_a_line zero space (first ∷ rest) tokens is = subst BeginsALine (same_tokens [] tokens is) tt
begins_a_line (suc fronts) space (first ∷ rest) tokens is =
    begins_with_front fronts (begins_a_line fronts) space first rest (front_of false (bytes_of (first ∷ rest))) tokens is

with_tokens-Tokens : (tokens others : List Tok) → with_tokens tokens (Tokens others) ≡ Tokens (tokens ++ others)
with_tokens-Tokens [] others = refl
with_tokens-Tokens (t ∷ tokens) others = ap (with_token t) (with_tokens-Tokens tokens others)

-- the tokens of the longer text are those of the shorter one, and others that begin a line
abbrev HasTokensBehind : List Tok → List Tok → Type 0
HasTokensBehind tokens all = (later : List Tok) × (all ≡ tokens ++ later) × BeginsALine later

with_tokens-Refused : (tokens : List Tok) (fault : LexFault) → with_tokens tokens (Refused fault) ≡ Refused fault
with_tokens-Refused [] fault = refl
with_tokens-Refused (t ∷ tokens) fault = ap (with_token t) (with_tokens-Refused tokens fault)

no_tokens : (fault : LexFault) (tokens : List Tok) → Refused fault ≡ Tokens tokens → ⊥
no_tokens fault tokens is = cc

no_fault : (tokens : List Tok) (found : Lexed) (all : List Tok) → with_tokens tokens found ≡ Tokens all
    → ((later : List Tok) → found ≡ Tokens later → BeginsALine later) → HasTokensBehind tokens all
no_fault tokens (Tokens later) all is begins = (later, sym (same_tokens (tokens ++ later) all (sym (with_tokens-Tokens tokens later) ∙ is)), begins later refl)
no_fault tokens (Refused fault) all is begins = absurd (no_tokens fault all (sym (with_tokens-Refused tokens fault) ∙ is))

lexed_file-more : (file : ℕ) (text more : List ℕ) (tokens all : List Tok) → ends_its_line text ≡ true → lexed_file file text ≡ Tokens tokens
    → lexed_file file (text ++ more) ≡ Tokens all → HasTokensBehind tokens all
lexed_file-more file text more tokens all ends short long =
    let goes = logical_from-more false (start_of file) text more ends in
    let rest : List SourceByte = logical_from false goes.0 more in
    no_fault tokens (lexed_behind AtLineStart true rest) all
    (sym (lexed-more AtLineStart (logical_text file text) rest tokens goes.2 short) ∙ ap (lexed_behind AtLineStart false) (sym goes.1) ∙ long)
    (λ later is. begins_a_line (length rest) true rest later is)

-- Files

text_of_file-more : (value : Evaluation) (include : Reader) (behind_directive : Bool) (file : ℕ) (text more : List ℕ) (s : UnitState) → ends_its_line text ≡ true
    → HasTokens text → HasTokens (text ++ more) → EndsAsTold behind_directive text → BreaksOffBefore behind_directive (text_of_file value include file text s).ending
    → text_of_file value include file (text ++ more) s ≡ text_of_file value include file text s
text_of_file-more value include behind_directive file text more s ends short long told off =
    let few = tokens_are_unique AtLineStart (logical_text file text) (short file).0 (short file).1 in
    let all = tokens_are_unique AtLineStart (logical_text file (text ++ more)) (long file).0 (long file).1 in
    let behind = lexed_file-more file text more (short file).0 (long file).0 ends few all in
    ap (λ (found : Lexed). lexed_piece value include found s) (all ∙ ap Tokens behind.1)
    ∙ tokens_behind_the_end value include behind_directive (short file).0 behind.0 [] s
    (subst (λ (found : Lexed). BreaksOffBefore behind_directive (lexed_piece value include found s).ending) few off)
    (told file (short file).0 (short file).1) behind.2
    ∙ ap (λ (found : Lexed). lexed_piece value include found s) (sym few)

-- what is left to check of a size is the sum
abbrev room : ℕ → UnitState → (UnitState → Piece) → Piece
room total s next = elim (nat_lt unit_limits.all_files total) [
  | true ↦ only_ending (IsOver (Passes AllFiles))
  | false ↦ next (record s { bytes = total })
]

sized-small : (bytes : List ℕ) (s : UnitState) (next : UnitState → Piece) → length bytes ≤ unit_limits.file_size
    → sized unit_limits bytes s next ≡ room (s.bytes + length bytes) s next
sized-small bytes s next small =
    ap (λ v. elim v as (λ _. Piece) [
      | true ↦ only_ending (IsOver (Passes FileSize))
      | false ↦ room (s.bytes + length bytes) s next
    ]) (le-ltb unit_limits.file_size (length bytes) small)

room-more : (behind_directive : Bool) (total : ℕ) (s : UnitState) (next that : UnitState → Piece) → ((u : UnitState) → BreaksOffBefore behind_directive (next u).ending → that u ≡ next u)
    → BreaksOffBefore behind_directive (room total s next).ending → room total s that ≡ room total s next
room-more behind_directive total s next that same off =
    elim (nat_lt unit_limits.all_files total) as (λ v.
    BreaksOffBefore behind_directive (elim v as (λ _. Piece) [ true ↦ only_ending (IsOver (Passes AllFiles)) | false ↦ next (record s { bytes = total }) ]).ending
    → (elim v as (λ _. Piece) [ true ↦ only_ending (IsOver (Passes AllFiles)) | false ↦ that (record s { bytes = total }) ])
    ≡ (elim v as (λ _. Piece) [ true ↦ only_ending (IsOver (Passes AllFiles)) | false ↦ next (record s { bytes = total }) ])) [
      | true ↦ λ h. refl
      | false ↦ λ h. same (record s { bytes = total }) h
    ] off

file_piece-more : (value : Evaluation) (include : Reader) (behind_directive : Bool) (files others : FileMap) (path text more : List ℕ) → HasMoreLines files others path text more
    → EndsAsTold behind_directive text → (s : UnitState) → BreaksOffBefore behind_directive (file_piece value include (record { path = path; bytes = text }) s).ending
    → file_piece value include (record { path = path; bytes = text ++ more }) s ≡ file_piece value include (record { path = path; bytes = text }) s
file_piece-more value include behind_directive files others path text more h told s off =
    text_of_file-more value include behind_directive (number_from 1 s.paths path) text more (record s { paths = paths_with path s.paths }) h.ends_line h.has_tokens
    h.has_tokens_longer told off

-- FILE with these bytes, before which so many more were loaded
abbrev main_piece_behind : Setting → (path : List ℕ) → (loaded : ℕ) → (bytes : List ℕ) → UnitState → Piece
main_piece_behind setting path loaded bytes s = main_piece_of setting path (Some bytes) (more_loaded loaded s)

main_piece-more : (value : Evaluation) (options : Options) (behind_directive : Bool) (files others : FileMap) (path text more : List ℕ) → HasMoreLines files others path text more
    → EndsAsTold behind_directive text → (s : UnitState)
    → BreaksOffBefore behind_directive (main_piece_behind (record { options = options; files = file_at others; value = value; limits = unit_limits }) path (length more) text s).ending
    → main_piece (record { options = options; files = file_at others; value = value; limits = unit_limits }) path s
    ≡ main_piece_behind (record { options = options; files = file_at others; value = value; limits = unit_limits }) path (length more) text s
main_piece-more value options behind_directive files others path text more h told s off =
    let setting : Setting = record { options = options; files = file_at others; value = value; limits = unit_limits } in
    let include : Reader = reader setting unit_limits.include_depth in
    let next : UnitState → Piece = file_piece value include (record { path = path; bytes = text }) in
    let that : UnitState → Piece = file_piece value include (record { path = path; bytes = text ++ more }) in
    let total : ℕ = s.bytes + length more + length text in
    let lengths = length-append text more in
    let short : length text ≤ unit_limits.file_size = omega (arith, h.small, lengths) in
    let same : s.bytes + length (text ++ more) ≡ total = omega (arith, lengths) in
    let behind = sized-small text (record s { bytes = s.bytes + length more }) next short in
    ap (λ (found : Option (List ℕ)). main_piece_of setting path found s) h.found_longer
    ∙ sized-small (text ++ more) s that h.small
    ∙ ap (λ (n : ℕ). room n s that) same
    ∙ room-more behind_directive total s next that (file_piece-more value include behind_directive files others path text more h told)
    (subst (λ (piece : Piece). BreaksOffBefore behind_directive piece.ending) behind off)
    ∙ sym behind

-- Units

abbrev stop_in : UnitEnd → Stop
stop_in (Ends undefined paths) = Passes UnitTokens
stop_in (EndsEarly stop) = stop

over : (behind_directive : Bool) (ending : PieceEnd) (stop : Stop) → unit_end ending ≡ EndsEarly stop → may_stop_at_the_end behind_directive stop ≡ false
    → BreaksOffBefore behind_directive ending
over behind_directive (Continues s) stop is before = cc
over behind_directive (IsOver other) stop is before = ap (λ (end : UnitEnd). may_stop_at_the_end behind_directive (stop_in end)) is ∙ before

-- not for the number of its tokens
capped-over : (behind_directive : Bool) (most : ℕ) (piece : Piece) (stop : Stop) → unit_end (capped most piece).ending ≡ EndsEarly stop → may_stop_at_the_end behind_directive stop ≡ false
    → (nat_lt most (length piece.tokens) ≡ false) × BreaksOffBefore behind_directive piece.ending
capped-over behind_directive most piece stop is before =
    elim (nat_lt most (length piece.tokens)) as (λ v.
    unit_end (elim v as (λ _. Piece) [
      | true ↦ record { tokens = take most piece.tokens; ending = IsOver (Passes UnitTokens) }
      | false ↦ piece
    ]).ending ≡ EndsEarly stop → (v ≡ false) × BreaksOffBefore behind_directive piece.ending) [
      | true ↦ λ e. absurd (true≢false (ap (λ (end : UnitEnd). may_stop_at_the_end behind_directive (stop_in end)) e ∙ before))
      | false ↦ λ e. (refl, over behind_directive piece.ending stop e before)
    ] is

-- a piece that isn't longer isn't cut either
not_cut : (most : ℕ) (piece other : Piece) → nat_lt most (length piece.tokens) ≡ false → length other.tokens ≤ length piece.tokens
    → other.ending ≡ IsOver (Passes AllFiles) → unit_end (capped most other).ending ≡ EndsEarly (Passes AllFiles)
not_cut most piece other few fewer e =
    let fits = ltb-false most (length piece.tokens) few in
    ap (λ v. unit_end (elim v as (λ _. Piece) [
      | true ↦ record { tokens = take most other.tokens; ending = IsOver (Passes UnitTokens) }
      | false ↦ other
    ]).ending) (le-ltb most (length other.tokens) (omega (arith, fits, fewer)))
    ∙ ap unit_end e

-- the longer file's piece is the shorter one's, or it ends at the limit of all files
same_or_too_large : (behind_directive : Bool) (loaded : ℕ) (most : ℕ) (short middle long : Piece) → LoadsMore loaded short middle
    → (BreaksOffBefore behind_directive middle.ending → long ≡ middle) → nat_lt most (length short.tokens) ≡ false → BreaksOffBefore behind_directive short.ending
    → (unit_end (capped most long).ending ≡ EndsEarly (Passes AllFiles) → ⊥) → long ≡ short
same_or_too_large behind_directive loaded most short middle long (inl e) goes few off room_left =
    let same : middle ≡ short = e ∙ over_with loaded behind_directive short off in
    goes (subst (λ (piece : Piece). BreaksOffBefore behind_directive piece.ending) (sym same) off) ∙ same
same_or_too_large behind_directive loaded most short middle long (inr h) goes few off room_left =
    let same : long ≡ middle = goes (subst (BreaksOffBefore behind_directive) (sym h.0) refl) in
    absurd (room_left
    (not_cut most short long few (subst (λ (piece : Piece). length piece.tokens ≤ length short.tokens) (sym same) h.1)
    (ap (λ (piece : Piece). piece.ending) same ∙ h.0)))

pub lines_behind_the_units_end : LinesBehindTheUnitsEnd
unfolding preprocessed
lines_behind_the_units_end value options files others path text more behind_directive stop h once told is before room_left =
    let setting : Setting = record { options = options; files = file_at others; value = value; limits = unit_limits } in
    let command : Piece = command_piece setting (first_state unit_limits path) in
    let short : UnitState → Piece = main_piece_of setting path (Some text) in
    let middle : UnitState → Piece = main_piece_behind setting path (length more) text in
    let long : UnitState → Piece = main_piece setting path in
    let among = once others h.elsewhere in
    let off = capped-over behind_directive unit_limits.unit_tokens (and_then command short) stop (ap (λ (unit : PreprocessedUnit). unit.end) among ∙ is) before in
    ap (λ (piece : Piece). record { tokens = (capped unit_limits.unit_tokens piece).tokens; end = unit_end (capped unit_limits.unit_tokens piece).ending })
    (same_or_too_large behind_directive (length more) unit_limits.unit_tokens (and_then command short) (and_then command middle) (and_then command long)
    (behind_the_same (length more) command.tokens command.ending short middle (main-loads (length more) setting (record { path = path; bytes = text })))
    (behind_ending-more behind_directive command.tokens command.ending middle long (main_piece-more value options behind_directive files others path text more h told)) off.0 off.1 room_left)
    ∙ among
