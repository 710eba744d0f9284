-- Lines behind the tokens with which a file breaks off.
use Rattle.std.proofs.Common.{◌≡◌, Bool, true, false, ◌&&◌, List, [], ◌∷◌, ◌++◌, map, refl, ap, sym, ◌∙◌, append_assoc, true≢false}
use Rattle.std.proofs.lemmas.Bool.{or_parts}
use Rattle.std.proofs.lemmas.List.{map-append}
use Rattle.meaning_text.specs.Tokens.{Tok, is_hash}
use Rattle.meaning_macros.specs.Hiding.{hides_nothing}
use Rattle.meaning_macros.specs.Expansion.{End, Finished, Failed, Passed, WrongArguments, OpenCall, BadPaste, Expanded, expansion}
use Rattle.meaning_preprocessing.specs.Lines.{Line, before_lines, lines_of, FileParts, LastText, DirectiveBehind, text_before, file_parts}
use Rattle.meaning_preprocessing.specs.State.{UnitState, table_in, Stop, Refuses, Passes, PieceEnd, Continues, IsOver, Piece, only_ending, tokens_before, behind_ending, and_then, ending_of, token_alone, expanded_in}
use Rattle.meaning_preprocessing.specs.Groups.{Group, are_read, Turn, Turns, Includes, Halts, Evaluation, closed_file}
use Rattle.meaning_preprocessing.specs.Directives.{turn_of}
use Rattle.meaning_preprocessing.specs.Unit.{Reader, text_piece, turn_piece, over_parts}
use Rattle.meaning_preprocessing.specs.laws.Lines.{tells_open_group, stops_at_open_group}
use Rattle.meaning_preprocessing.specs.laws.LongerFiles.{tells_open_call, BreaksOffBefore, BeginsALine, last_is_directive, TokensBehindTheEnd}
use Rattle.meaning_preprocessing.proofs.LinesRead.{prepended, prepended-nothing}
use Rattle.meaning_preprocessing.proofs.LinesBehind.{lines_behind_the_end}
use Rattle.meaning_preprocessing.proofs.ExpansionFronts.{BreaksOff, expansion-more}

-- Text

ending_of-breaks_off : (s : UnitState) (e : End) → BreaksOffBefore false (ending_of s e) → BreaksOff e
ending_of-breaks_off s (Finished left) h = h
ending_of-breaks_off s (Failed WrongArguments place) h = tt
ending_of-breaks_off s (Failed OpenCall place) h = absurd (true≢false h)
ending_of-breaks_off s (Failed BadPaste place) h = tt
ending_of-breaks_off s (Passed counted) h = tt

expanded_in-more : (s : UnitState) (text more : List Tok) → BreaksOffBefore false (expanded_in s text).ending → expanded_in s (text ++ more) ≡ expanded_in s text
expanded_in-more s text more h =
    ap (λ (all : Expanded). record { tokens = map token_alone all.tokens; ending = ending_of s all.end })
    (ap (expansion (table_in s) s.budget) (map-append hides_nothing text more)
    ∙ expansion-more (table_in s) s.budget (map hides_nothing text) (map hides_nothing more)
    (ending_of-breaks_off s (expansion (table_in s) s.budget (map hides_nothing text)).end h))

text_piece-more : (groups : List Group) (s : UnitState) (text more : List Tok) → BreaksOffBefore false (text_piece groups text s).ending
    → text_piece groups (text ++ more) s ≡ text_piece groups text s
text_piece-more groups s text more h =
    elim (are_read groups) as (λ v.
    BreaksOffBefore false (elim v as (λ _. Piece) [ true ↦ expanded_in s text | false ↦ only_ending (Continues s) ]).ending
    → (elim v as (λ _. Piece) [ true ↦ expanded_in s (text ++ more) | false ↦ only_ending (Continues s) ])
    ≡ (elim v as (λ _. Piece) [ true ↦ expanded_in s text | false ↦ only_ending (Continues s) ])) [
      | true ↦ λ k. expanded_in-more s text more k
      | false ↦ λ k. refl
    ] h

-- Pieces

closed_file-goes_on : (groups : List Group) (s : UnitState) → BreaksOffBefore false (closed_file groups s).ending → ⊥
closed_file-goes_on [] s h = h
closed_file-goes_on (group ∷ groups) s h = true≢false h

-- so the last text of a file broke off
last_text : (groups : List Group) (tokens : List Tok) (ending : PieceEnd) → BreaksOffBefore false (behind_ending tokens ending (closed_file groups)).ending
    → BreaksOffBefore false ending
last_text groups tokens (Continues u) h = absurd (closed_file-goes_on groups u h)
last_text groups tokens (IsOver stop) h = h

-- and then nothing follows
nothing_follows : (tokens : List Tok) (ending : PieceEnd) (next that : UnitState → Piece) → BreaksOffBefore false ending
    → behind_ending tokens ending next ≡ behind_ending tokens ending that
nothing_follows tokens (Continues u) next that h = absurd h
nothing_follows tokens (IsOver stop) next that h = refl

last_text-more : (groups : List Group) (s : UnitState) (text more : List Tok) (next : UnitState → Piece)
    → BreaksOffBefore false (and_then (text_piece groups text s) (closed_file groups)).ending
    → and_then (text_piece groups (text ++ more) s) next ≡ and_then (text_piece groups text s) (closed_file groups)
last_text-more groups s text more next h =
    let piece : Piece = text_piece groups text s in
    let over = last_text groups piece.tokens piece.ending h in
    ap (λ (all : Piece). and_then all next) (text_piece-more groups s text more over)
    ∙ nothing_follows piece.tokens piece.ending next (closed_file groups) over

pub behind_ending-more : (behind_directive : Bool) (tokens : List Tok) (ending : PieceEnd) (next that : UnitState → Piece)
    → ((u : UnitState) → BreaksOffBefore behind_directive (next u).ending → that u ≡ next u)
    → BreaksOffBefore behind_directive (behind_ending tokens ending next).ending → behind_ending tokens ending that ≡ behind_ending tokens ending next
behind_ending-more behind_directive tokens (Continues u) next that k h = ap (tokens_before tokens) (k u h)
behind_ending-more behind_directive tokens (IsOver stop) next that k h = refl

turn_piece-more : (include : Reader) (groups : List Group) (next that : List Group → UnitState → Piece) (turn : Turn)
    → ((others : List Group) (u : UnitState) → BreaksOffBefore false (next others u).ending → that others u ≡ next others u)
    → BreaksOffBefore false (turn_piece include groups next turn).ending → turn_piece include groups that turn ≡ turn_piece include groups next turn
turn_piece-more include groups next that (Turns others u) k h = k others u h
turn_piece-more include groups next that (Includes request u) k h =
    behind_ending-more false (include request u).tokens (include request u).ending (next groups) (that groups) (k groups) h
turn_piece-more include groups next that (Halts stop) k h = refl

-- Parts

-- the parts of a file, and then others
abbrev joined : FileParts → FileParts → FileParts
joined (LastText text) more = prepended text more
joined (DirectiveBehind text hash rest parts) more = DirectiveBehind text hash rest (joined parts more)

over_parts-more : (value : Evaluation) (include : Reader) (parts more : FileParts) (groups : List Group) (s : UnitState)
    → BreaksOffBefore false (over_parts value include parts groups s).ending
    → over_parts value include (joined parts more) groups s ≡ over_parts value include parts groups s
over_parts-more value include (LastText text) (LastText other) groups s h = last_text-more groups s text other (closed_file groups) h
over_parts-more value include (LastText text) (DirectiveBehind other hash rest parts) groups s h =
    last_text-more groups s text other
    (λ u. turn_piece include groups (λ others v. over_parts value include parts others v) (turn_of value hash rest groups u)) h
over_parts-more value include (DirectiveBehind text hash rest parts) more groups s h =
    behind_ending-more false (text_piece groups text s).tokens (text_piece groups text s).ending
    (λ u. turn_piece include groups (λ others v. over_parts value include parts others v) (turn_of value hash rest groups u))
    (λ u. turn_piece include groups (λ others v. over_parts value include (joined parts more) others v) (turn_of value hash rest groups u))
    (λ u k.
    turn_piece-more include groups (λ others v. over_parts value include parts others v) (λ others v. over_parts value include (joined parts more) others v)
    (turn_of value hash rest groups u) (λ others v over. over_parts-more value include parts more others v over) k) h

joined-text : (line : Line) (parts more : FileParts) → text_before line (joined parts more) ≡ joined (text_before line parts) more
joined-text line (LastText text) (LastText other) = ap LastText (sym (append_assoc (line.first ∷ line.rest) text other))
joined-text line (LastText text) (DirectiveBehind other hash rest parts) =
    ap (λ (all : List Tok). DirectiveBehind all hash rest parts) (sym (append_assoc (line.first ∷ line.rest) text other))
joined-text line (DirectiveBehind text hash rest parts) more = refl

file_parts-more : (lines more : List Line) → file_parts (lines ++ more) ≡ joined (file_parts lines) (file_parts more)
file_parts-more [] more = sym (prepended-nothing (file_parts more))
file_parts-more (line ∷ lines) more =
    elim (is_hash line.first.kind) as (λ v.
    (elim v as (λ _. FileParts) [
      | true ↦ DirectiveBehind [] line.first line.rest (file_parts (lines ++ more))
      | false ↦ text_before line (file_parts (lines ++ more))
    ])
    ≡ joined (elim v as (λ _. FileParts) [
      | true ↦ DirectiveBehind [] line.first line.rest (file_parts lines)
      | false ↦ text_before line (file_parts lines)
    ]) (file_parts more)) [
      | true ↦ ap (DirectiveBehind [] line.first line.rest) (file_parts-more lines more)
      | false ↦ ap (text_before line) (file_parts-more lines more) ∙ joined-text line (file_parts lines) (file_parts more)
    ]

-- Lines

before_lines-front : (t u : Tok) (more : List Line) (us : List Tok) → u.line_start ≡ true
    → before_lines t (before_lines u more) ≡ record { first = t; rest = [] } ∷ before_lines u more
before_lines-front t u [] us h =
    ap (λ v. elim v as (λ _. List Line) [
      | true ↦ record { first = t; rest = [] } ∷ record { first = u; rest = [] } ∷ []
      | false ↦ record { first = t; rest = u ∷ [] } ∷ []
    ]) h
before_lines-front t u (line ∷ more) us h =
    elim line.first.line_start as (λ v.
    before_lines t (elim v as (λ _. List Line) [
      | true ↦ record { first = u; rest = [] } ∷ line ∷ more
      | false ↦ record { first = u; rest = line.first ∷ line.rest } ∷ more
    ])
    ≡ record { first = t; rest = [] } ∷ (elim v as (λ _. List Line) [
      | true ↦ record { first = u; rest = [] } ∷ line ∷ more
      | false ↦ record { first = u; rest = line.first ∷ line.rest } ∷ more
    ])) [
      | true ↦ ap (λ w. elim w as (λ _. List Line) [
        | true ↦ record { first = t; rest = [] } ∷ record { first = u; rest = [] } ∷ line ∷ more
        | false ↦ record { first = t; rest = u ∷ [] } ∷ line ∷ more
      ]) h
      | false ↦ ap (λ w. elim w as (λ _. List Line) [
        | true ↦ record { first = t; rest = [] } ∷ record { first = u; rest = line.first ∷ line.rest } ∷ more
        | false ↦ record { first = t; rest = u ∷ line.first ∷ line.rest } ∷ more
      ]) h
    ]

last_line : (t : Tok) (later : List Tok) → BeginsALine later → before_lines t (lines_of later) ≡ record { first = t; rest = [] } ∷ lines_of later
last_line t [] h = refl
last_line t (u ∷ us) h = before_lines-front t u (lines_of us) us h

before_lines-more : (t : Tok) (line : Line) (lines more : List Line) → before_lines t ((line ∷ lines) ++ more) ≡ before_lines t (line ∷ lines) ++ more
before_lines-more t line lines more =
    elim line.first.line_start as (λ v.
    (elim v as (λ _. List Line) [
      | true ↦ record { first = t; rest = [] } ∷ line ∷ (lines ++ more)
      | false ↦ record { first = t; rest = line.first ∷ line.rest } ∷ (lines ++ more)
    ])
    ≡ (elim v as (λ _. List Line) [
      | true ↦ record { first = t; rest = [] } ∷ line ∷ lines
      | false ↦ record { first = t; rest = line.first ∷ line.rest } ∷ lines
    ]) ++ more) [
      | true ↦ refl
      | false ↦ refl
    ]

-- of a token, and lines, with other lines behind
one_more : (t : Tok) (lines : List Line) (later : List Tok) → BeginsALine later → before_lines t (lines ++ lines_of later) ≡ before_lines t lines ++ lines_of later
one_more t [] later h = last_line t later h
one_more t (line ∷ lines) later h = before_lines-more t line lines (lines_of later)

lines_of-more : (tokens later : List Tok) → BeginsALine later → lines_of (tokens ++ later) ≡ lines_of tokens ++ lines_of later
lines_of-more [] later h = refl
lines_of-more (t ∷ tokens) later h = ap (before_lines t) (lines_of-more tokens later h) ∙ one_more t (lines_of tokens) later h

-- it breaks off, and not at an open group
over_before : (ending : PieceEnd) → BreaksOffBefore true ending → (stop : Stop) × (ending ≡ IsOver stop) × (stops_at_open_group stop ≡ false)
over_before (Continues s) h = absurd h
over_before (IsOver (Refuses error)) h = (Refuses error, refl, (or_parts (tells_open_group error.kind) (tells_open_call error.kind && false) h).0)
over_before (IsOver (Passes limit)) h = (Passes limit, refl, refl)

-- the last line is a directive
record EndsWithDirective (lines : List Line) : Type 0 where
  before : List Line
  directive : Line
  split : lines ≡ before ++ (directive ∷ [])
  is_one : is_hash directive.first.kind ≡ true

last_directive : (lines : List Line) → last_is_directive lines ≡ true → EndsWithDirective lines
last_directive [] h = absurd (true≢false (sym h))
last_directive (line ∷ []) h = record { before = []; directive = line; split = refl; is_one = h }
last_directive (line ∷ other ∷ lines) h =
    let later = last_directive (other ∷ lines) h in
    record {
      before = line ∷ later.before;
      directive = later.directive;
      split = ap (λ (all : List Line). line ∷ all) later.split;
      is_one = later.is_one;
    }

behind_a_directive : (value : Evaluation) (include : Reader) (lines more : List Line) (groups : List Group) (s : UnitState) → EndsWithDirective lines
    → BreaksOffBefore true (over_parts value include (file_parts lines) groups s).ending
    → over_parts value include (file_parts (lines ++ more)) groups s ≡ over_parts value include (file_parts lines) groups s
behind_a_directive value include lines more groups s ends h =
    let over_all : List Line → Piece = λ all. over_parts value include (file_parts all) groups s in
    let stop = over_before (over_all lines).ending h in
    ap over_all (ap (λ (all : List Line). all ++ more) ends.split ∙ append_assoc ends.before (ends.directive ∷ []) more)
    ∙ lines_behind_the_end value include ends.before ends.directive groups s stop.0 ends.is_one
    (ap (λ (all : List Line). (over_all all).ending) (sym ends.split) ∙ stop.1) stop.2 more
    ∙ ap over_all (sym ends.split)

pub tokens_behind_the_end : TokensBehindTheEnd
tokens_behind_the_end value include true tokens later groups s h last begins =
    ap (λ (lines : List Line). over_parts value include (file_parts lines) groups s) (lines_of-more tokens later begins)
    ∙ behind_a_directive value include (lines_of tokens) (lines_of later) groups s (last_directive (lines_of tokens) last) h
tokens_behind_the_end value include false tokens later groups s h last begins =
    ap (λ (lines : List Line). over_parts value include (file_parts lines) groups s) (lines_of-more tokens later begins)
    ∙ ap (λ (parts : FileParts). over_parts value include parts groups s) (file_parts-more (lines_of tokens) (lines_of later))
    ∙ over_parts-more value include (file_parts (lines_of tokens)) (file_parts (lines_of later)) groups s h
