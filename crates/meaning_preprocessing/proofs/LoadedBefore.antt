-- How many bytes were loaded before a piece matters for the limit of all files alone.
use Rattle.std.proofs.Common.{◌≡◌, ℕ, zero, suc, ◌+◌, ◌≤◌, Bool, true, false, not, ◌&&◌, ◌==◌, List, [], ◌∷◌, length, map, Option, Some, None, nat_lt, ◌⊎◌, inl, inr, refl, sym, ap, ◌∙◌, subst, arith, ltb-false}
use Rattle.std.specs.Prelude.{Result, Ok, Err}
use Rattle.std.proofs.lemmas.Bool.{cases_Bool, le-ltb}
use Rattle.std.proofs.lemmas.List.{length-append}
use Rattle.vocabulary.specs.declared.error_kind.ErrorKind.{ErrorKind}
use Rattle.vocabulary.specs.declared.error_kind.ErrorKind.TheVariants.{MalformedDirective, ConditionalAfterElse}
use Rattle.vocabulary.specs.declared.limit.LimitKind.TheVariants.{FileSize, AllFiles, IncludeDepth}
use Rattle.meaning_text.specs.Tokens.{Tok, LexFault, OpenComment, OpenLiteral}
use Rattle.meaning_text.specs.Lexing.{Lexed, Tokens, Refused, lexed_file}
use Rattle.meaning_macros.specs.Signs.{is_identifier_kind}
use Rattle.meaning_macros.specs.Macros.{Definition}
use Rattle.meaning_macros.specs.Hiding.{hides_nothing}
use Rattle.meaning_macros.specs.Expansion.{End, Finished, Failed, Passed, expansion}
use Rattle.meaning_conditions.specs.Answers.{Answer, HasValue, HasBadIndex, HasZeroDivisor}
use Rattle.meaning_preprocessing.specs.Lines.{FileParts, LastText, DirectiveBehind, lines_of, file_parts, DirectiveName, IfLine, IfdefLine, IfndefLine, ElifLine, ElseLine, EndifLine, IncludeLine, DefineLine, UndefLine, ErrorLine, UnreadLine, UnknownLine, directive_of, behind_word}
use Rattle.meaning_preprocessing.specs.DefinitionLines.{definition_behind, with_definition, without_definition}
use Rattle.meaning_preprocessing.specs.ConditionLines.{is_defined, Nothing, answered, with_undefined}
use Rattle.meaning_preprocessing.specs.State.{UnitState, table_in, paths_with, number_from, Stop, Passes, PieceEnd, Continues, IsOver, Piece, only_ending, tokens_before, behind_ending, and_then, refused, ending_of, expanded_in}
use Rattle.meaning_preprocessing.specs.Search.{Header, HeaderRequest, header_spelled, is_header_kind, header_of, FoundFile, first_found, paths_for}
use Rattle.meaning_preprocessing.specs.Groups.{Group, are_read, group_of, Turn, Turns, Includes, Halts, turn_of_ending, with_expanded, Evaluation, by_answer, evaluated_line, with_condition, same_truth, ifdef_turn, elif_turn, has_tokens, else_turn, endif_turn, closed_file}
use Rattle.meaning_preprocessing.specs.Directives.{table_turn, definition_turn, undef_turn, asked, asked_if, include_turn, read_turn, skipped_turn, turn_of}
use Rattle.meaning_preprocessing.specs.Unit.{Limits, Setting, Reader, text_piece, turn_piece, over_parts, stop_of_fault, lexed_piece, file_piece, sized, found_piece, reader}
use Rattle.meaning_preprocessing.specs.laws.LongerFiles.{BreaksOffBefore}

-- the same with so many bytes loaded before
abbrev pub more_loaded : ℕ → UnitState → UnitState
more_loaded loaded s = record s { bytes = s.bytes + loaded }

abbrev ending_with : ℕ → PieceEnd → PieceEnd
ending_with loaded (Continues s) = Continues (more_loaded loaded s)
ending_with loaded (IsOver stop) = IsOver stop

ending_over : (loaded : ℕ) (behind_directive : Bool) (ending : PieceEnd) → BreaksOffBefore behind_directive ending → ending_with loaded ending ≡ ending
ending_over loaded behind_directive (Continues s) h = absurd h
ending_over loaded behind_directive (IsOver stop) h = refl

abbrev pub piece_with : ℕ → Piece → Piece
piece_with loaded piece = record piece { ending = ending_with loaded piece.ending }

abbrev turn_with : ℕ → Turn → Turn
turn_with loaded (Turns groups s) = Turns groups (more_loaded loaded s)
turn_with loaded (Includes request s) = Includes request (more_loaded loaded s)
turn_with loaded (Halts stop) = Halts stop

-- Expansions

ending_of-with : (loaded : ℕ) (s : UnitState) (e : End) → ending_of (more_loaded loaded s) e ≡ ending_with loaded (ending_of s e)
ending_of-with loaded s (Finished budget) = refl
ending_of-with loaded s (Failed fault place) = refl
ending_of-with loaded s (Passed counted) = refl

expanded_in-with : (loaded : ℕ) (s : UnitState) (tokens : List Tok) → expanded_in (more_loaded loaded s) tokens ≡ piece_with loaded (expanded_in s tokens)
expanded_in-with loaded s tokens =
    let all : Piece = expanded_in s tokens in
    ap (λ (ending : PieceEnd). record all { ending = ending }) (ending_of-with loaded s (expansion (table_in s) s.budget (map hides_nothing tokens)).end)

turn_of_ending-with : (loaded : ℕ) (tokens : List Tok) (ending : PieceEnd) (next : List Tok → UnitState → Turn)
    → ((u : UnitState) → next tokens (more_loaded loaded u) ≡ turn_with loaded (next tokens u))
    → turn_of_ending tokens (ending_with loaded ending) next ≡ turn_with loaded (turn_of_ending tokens ending next)
turn_of_ending-with loaded tokens (Continues s) next h = h s
turn_of_ending-with loaded tokens (IsOver stop) next h = refl

with_expanded-with : (loaded : ℕ) (s : UnitState) (tokens : List Tok) (next : List Tok → UnitState → Turn)
    → ((made : List Tok) (u : UnitState) → next made (more_loaded loaded u) ≡ turn_with loaded (next made u))
    → with_expanded (more_loaded loaded s) tokens next ≡ turn_with loaded (with_expanded s tokens next)
with_expanded-with loaded s tokens next h =
    let all : Piece = expanded_in s tokens in
    ap (λ (piece : Piece). turn_of_ending piece.tokens piece.ending next) (expanded_in-with loaded s tokens)
    ∙ turn_of_ending-with loaded all.tokens all.ending next (h all.tokens)

-- Conditionals

by_answer-with : (loaded : ℕ) (hash : Tok) (answer : Answer) (s : UnitState) (next : Bool → UnitState → Turn)
    → ((holds : Bool) (u : UnitState) → next holds (more_loaded loaded u) ≡ turn_with loaded (next holds u))
    → by_answer hash answer (more_loaded loaded s) next ≡ turn_with loaded (by_answer hash answer s next)
by_answer-with loaded hash (HasValue number) s next h = h (not (number.bits == 0)) s
by_answer-with loaded hash (HasBadIndex index) s next h = refl
by_answer-with loaded hash (HasZeroDivisor index) s next h = refl

evaluated_line-with : (loaded : ℕ) (value : Evaluation) (hash : Tok) (tokens : Option (List Tok)) (s : UnitState) (next : Bool → UnitState → Turn)
    → ((holds : Bool) (u : UnitState) → next holds (more_loaded loaded u) ≡ turn_with loaded (next holds u))
    → evaluated_line value hash tokens (more_loaded loaded s) next ≡ turn_with loaded (evaluated_line value hash tokens s next)
evaluated_line-with loaded value hash None s next h = refl
evaluated_line-with loaded value hash (Some tokens) s next h =
    with_expanded-with loaded s tokens (λ left u. by_answer hash (value left) (with_undefined left u) next)
    (λ left u. by_answer-with loaded hash (value left) (with_undefined left u) next h)

with_condition-with : (loaded : ℕ) (value : Evaluation) (hash : Tok) (rest : List Tok) (s : UnitState) (next : Bool → UnitState → Turn)
    → ((holds : Bool) (u : UnitState) → next holds (more_loaded loaded u) ≡ turn_with loaded (next holds u))
    → with_condition value hash rest (more_loaded loaded s) next ≡ turn_with loaded (with_condition value hash rest s next)
with_condition-with loaded value hash rest s next h = evaluated_line-with loaded value hash (answered s.definitions Nothing rest) s next h

-- either of two turns
either_turn : (loaded : ℕ) (holds : Bool) (first second other_first other_second : Turn) → other_first ≡ turn_with loaded first
    → other_second ≡ turn_with loaded second
    → (elim holds as (λ _. Turn) [ true ↦ other_first | false ↦ other_second ])
    ≡ turn_with loaded (elim holds as (λ _. Turn) [ true ↦ first | false ↦ second ])
either_turn loaded true first second other_first other_second h k = h
either_turn loaded false first second other_first other_second h k = k

ifdef_turn-with : (loaded : ℕ) (wanted : Bool) (hash : Tok) (rest : List Tok) (groups : List Group) (s : UnitState)
    → ifdef_turn wanted hash rest groups (more_loaded loaded s) ≡ turn_with loaded (ifdef_turn wanted hash rest groups s)
ifdef_turn-with loaded wanted hash [] groups s = refl
ifdef_turn-with loaded wanted hash (t ∷ u ∷ rest) groups s = refl
ifdef_turn-with loaded wanted hash (t ∷ []) groups s =
    either_turn loaded (is_identifier_kind t.kind) (Turns (group_of hash (same_truth wanted (is_defined s.definitions t.text)) ∷ groups) s)
    (Halts (refused s MalformedDirective hash.at []))
    (Turns (group_of hash (same_truth wanted (is_defined s.definitions t.text)) ∷ groups) (more_loaded loaded s))
    (Halts (refused s MalformedDirective hash.at [])) refl refl

elif_turn-with : (loaded : ℕ) (value : Evaluation) (hash : Tok) (rest : List Tok) (groups : List Group) (s : UnitState)
    → elif_turn value hash rest groups (more_loaded loaded s) ≡ turn_with loaded (elif_turn value hash rest groups s)
elif_turn-with loaded value hash rest [] s = refl
elif_turn-with loaded value hash rest (group ∷ groups) s =
    let next : Bool → UnitState → Turn = λ holds u. Turns (record group { taken = holds; reads = holds } ∷ groups) u in
    let inner : UnitState → Turn = λ u. elim (group.outer && not group.taken) as (λ _. Turn) [
      | true ↦ with_condition value hash rest u next
      | false ↦ Turns (record group { reads = false } ∷ groups) u
    ] in
    either_turn loaded group.last (Halts (refused s ConditionalAfterElse hash.at [])) (inner s)
    (Halts (refused s ConditionalAfterElse hash.at [])) (inner (more_loaded loaded s)) refl
    (either_turn loaded (group.outer && not group.taken) (with_condition value hash rest s next) (Turns (record group { reads = false } ∷ groups) s)
    (with_condition value hash rest (more_loaded loaded s) next) (Turns (record group { reads = false } ∷ groups) (more_loaded loaded s))
    (with_condition-with loaded value hash rest s next (λ holds u. refl)) refl)

else_turn-with : (loaded : ℕ) (hash : Tok) (rest : List Tok) (groups : List Group) (s : UnitState)
    → else_turn hash rest groups (more_loaded loaded s) ≡ turn_with loaded (else_turn hash rest groups s)
else_turn-with loaded hash rest [] s = refl
else_turn-with loaded hash rest (group ∷ groups) s =
    let open_part : Group = record group { taken = true; reads = group.outer && not group.taken; last = true } in
    let inner : UnitState → Turn = λ u. elim (group.outer && has_tokens rest) as (λ _. Turn) [
      | true ↦ Halts (refused u MalformedDirective hash.at [])
      | false ↦ Turns (open_part ∷ groups) u
    ] in
    either_turn loaded group.last (Halts (refused s ConditionalAfterElse hash.at [])) (inner s)
    (Halts (refused s ConditionalAfterElse hash.at [])) (inner (more_loaded loaded s)) refl
    (either_turn loaded (group.outer && has_tokens rest) (Halts (refused s MalformedDirective hash.at [])) (Turns (open_part ∷ groups) s)
    (Halts (refused s MalformedDirective hash.at [])) (Turns (open_part ∷ groups) (more_loaded loaded s)) refl refl)

endif_turn-with : (loaded : ℕ) (hash : Tok) (rest : List Tok) (groups : List Group) (s : UnitState)
    → endif_turn hash rest groups (more_loaded loaded s) ≡ turn_with loaded (endif_turn hash rest groups s)
endif_turn-with loaded hash rest [] s = refl
endif_turn-with loaded hash rest (group ∷ groups) s =
    either_turn loaded (group.outer && has_tokens rest) (Halts (refused s MalformedDirective hash.at [])) (Turns groups s)
    (Halts (refused s MalformedDirective hash.at [])) (Turns groups (more_loaded loaded s)) refl refl

-- The other directives

table_turn-with : (loaded : ℕ) (hash : Tok) (definition : Definition) (table : Result (List Definition) ErrorKind) (groups : List Group) (s : UnitState)
    → table_turn hash definition table groups (more_loaded loaded s) ≡ turn_with loaded (table_turn hash definition table groups s)
table_turn-with loaded hash definition (Ok definitions) groups s = refl
table_turn-with loaded hash definition (Err kind) groups s = refl

definition_turn-with : (loaded : ℕ) (hash : Tok) (found : Result Definition ErrorKind) (groups : List Group) (s : UnitState)
    → definition_turn hash found groups (more_loaded loaded s) ≡ turn_with loaded (definition_turn hash found groups s)
definition_turn-with loaded hash (Err kind) groups s = refl
definition_turn-with loaded hash (Ok definition) groups s =
    table_turn-with loaded hash definition (with_definition definition s.definitions) groups s

undef_turn-with : (loaded : ℕ) (hash : Tok) (rest : List Tok) (groups : List Group) (s : UnitState)
    → undef_turn hash rest groups (more_loaded loaded s) ≡ turn_with loaded (undef_turn hash rest groups s)
undef_turn-with loaded hash [] groups s = refl
undef_turn-with loaded hash (t ∷ u ∷ rest) groups s = refl
undef_turn-with loaded hash (t ∷ []) groups s =
    let left : UnitState = record s { definitions = without_definition t.text s.definitions } in
    either_turn loaded (is_identifier_kind t.kind) (Turns groups left) (Halts (refused s MalformedDirective hash.at []))
    (Turns groups (more_loaded loaded left)) (Halts (refused s MalformedDirective hash.at [])) refl refl

asked_if-with : (loaded : ℕ) (hash first : Tok) (header : Option Header) (s : UnitState)
    → asked_if hash first header (more_loaded loaded s) ≡ turn_with loaded (asked_if hash first header s)
asked_if-with loaded hash first None s = refl
asked_if-with loaded hash first (Some header) s = refl

include_turn-with : (loaded : ℕ) (hash : Tok) (rest : List Tok) (s : UnitState)
    → include_turn hash rest (more_loaded loaded s) ≡ turn_with loaded (include_turn hash rest s)
include_turn-with loaded hash [] s = refl
include_turn-with loaded hash (t ∷ []) s =
    let next : List Tok → UnitState → Turn = λ tokens u. asked_if hash t (header_of tokens) u in
    either_turn loaded (is_header_kind t.kind) (asked hash t (header_spelled t.text) s) (with_expanded s (t ∷ []) next)
    (asked hash t (header_spelled t.text) (more_loaded loaded s)) (with_expanded (more_loaded loaded s) (t ∷ []) next) refl
    (with_expanded-with loaded s (t ∷ []) next (λ made u. asked_if-with loaded hash t (header_of made) u))
include_turn-with loaded hash (t ∷ u ∷ rest) s =
    let next : List Tok → UnitState → Turn = λ tokens v. asked_if hash t (header_of tokens) v in
    either_turn loaded (is_header_kind t.kind) (Halts (refused s MalformedDirective hash.at [])) (with_expanded s (t ∷ u ∷ rest) next)
    (Halts (refused s MalformedDirective hash.at [])) (with_expanded (more_loaded loaded s) (t ∷ u ∷ rest) next) refl
    (with_expanded-with loaded s (t ∷ u ∷ rest) next (λ made v. asked_if-with loaded hash t (header_of made) v))

read_turn-with : (loaded : ℕ) (value : Evaluation) (name : DirectiveName) (hash : Tok) (rest : List Tok) (groups : List Group) (s : UnitState)
    → read_turn value name hash rest groups (more_loaded loaded s) ≡ turn_with loaded (read_turn value name hash rest groups s)
read_turn-with loaded value IfLine hash rest groups s =
    with_condition-with loaded value hash rest s (λ holds u. Turns (group_of hash holds ∷ groups) u) (λ holds u. refl)
read_turn-with loaded value IfdefLine hash rest groups s = ifdef_turn-with loaded true hash rest groups s
read_turn-with loaded value IfndefLine hash rest groups s = ifdef_turn-with loaded false hash rest groups s
read_turn-with loaded value ElifLine hash rest groups s = elif_turn-with loaded value hash rest groups s
read_turn-with loaded value ElseLine hash rest groups s = else_turn-with loaded hash rest groups s
read_turn-with loaded value EndifLine hash rest groups s = endif_turn-with loaded hash rest groups s
read_turn-with loaded value IncludeLine hash rest groups s = include_turn-with loaded hash rest s
read_turn-with loaded value DefineLine hash rest groups s = definition_turn-with loaded hash (definition_behind rest) groups s
read_turn-with loaded value UndefLine hash rest groups s = undef_turn-with loaded hash rest groups s
read_turn-with loaded value ErrorLine hash rest groups s = refl
read_turn-with loaded value UnreadLine hash rest groups s = refl
read_turn-with loaded value UnknownLine hash rest groups s = refl

skipped_turn-with : (loaded : ℕ) (value : Evaluation) (name : DirectiveName) (hash : Tok) (rest : List Tok) (groups : List Group) (s : UnitState)
    → skipped_turn value name hash rest groups (more_loaded loaded s) ≡ turn_with loaded (skipped_turn value name hash rest groups s)
skipped_turn-with loaded value IfLine hash rest groups s = refl
skipped_turn-with loaded value IfdefLine hash rest groups s = refl
skipped_turn-with loaded value IfndefLine hash rest groups s = refl
skipped_turn-with loaded value ElifLine hash rest groups s = elif_turn-with loaded value hash rest groups s
skipped_turn-with loaded value ElseLine hash rest groups s = else_turn-with loaded hash rest groups s
skipped_turn-with loaded value EndifLine hash rest groups s = endif_turn-with loaded hash rest groups s
skipped_turn-with loaded value IncludeLine hash rest groups s = refl
skipped_turn-with loaded value DefineLine hash rest groups s = refl
skipped_turn-with loaded value UndefLine hash rest groups s = refl
skipped_turn-with loaded value ErrorLine hash rest groups s = refl
skipped_turn-with loaded value UnreadLine hash rest groups s = refl
skipped_turn-with loaded value UnknownLine hash rest groups s = refl

turn_of-with : (loaded : ℕ) (value : Evaluation) (hash : Tok) (rest : List Tok) (groups : List Group) (s : UnitState)
    → turn_of value hash rest groups (more_loaded loaded s) ≡ turn_with loaded (turn_of value hash rest groups s)
turn_of-with loaded value hash rest groups s =
    either_turn loaded (are_read groups) (read_turn value (directive_of rest) hash (behind_word rest) groups s)
    (skipped_turn value (directive_of rest) hash (behind_word rest) groups s)
    (read_turn value (directive_of rest) hash (behind_word rest) groups (more_loaded loaded s))
    (skipped_turn value (directive_of rest) hash (behind_word rest) groups (more_loaded loaded s))
    (read_turn-with loaded value (directive_of rest) hash (behind_word rest) groups s)
    (skipped_turn-with loaded value (directive_of rest) hash (behind_word rest) groups s)

-- Pieces

-- the same piece, or one that ends earlier, at the limit of all files
abbrev pub LoadsMore : ℕ → Piece → Piece → Type 0
LoadsMore loaded piece other =
    (other ≡ piece_with loaded piece) ⊎ ((other.ending ≡ IsOver (Passes AllFiles)) × (length other.tokens ≤ length piece.tokens))

tokens_before-loads : (loaded : ℕ) (tokens : List Tok) (piece other : Piece) → LoadsMore loaded piece other
    → LoadsMore loaded (tokens_before tokens piece) (tokens_before tokens other)
tokens_before-loads loaded tokens piece other (inl e) = inl (ap (tokens_before tokens) e)
tokens_before-loads loaded tokens piece other (inr h) =
    inr (h.0, omega (arith, h.1, length-append tokens piece.tokens, length-append tokens other.tokens))

behind_ending-loads : (loaded : ℕ) (tokens : List Tok) (ending : PieceEnd) (next that : UnitState → Piece)
    → ((u : UnitState) → LoadsMore loaded (next u) (that (more_loaded loaded u)))
    → LoadsMore loaded (behind_ending tokens ending next) (behind_ending tokens (ending_with loaded ending) that)
behind_ending-loads loaded tokens (Continues u) next that h = tokens_before-loads loaded tokens (next u) (that (more_loaded loaded u)) (h u)
behind_ending-loads loaded tokens (IsOver stop) next that h = inl refl

-- nothing follows a limit
over_the_limit : (tokens : List Tok) (ending : PieceEnd) (that : UnitState → Piece) → ending ≡ IsOver (Passes AllFiles)
    → behind_ending tokens ending that ≡ record { tokens = tokens; ending = IsOver (Passes AllFiles) }
over_the_limit tokens ending that e = ap (λ (x : PieceEnd). behind_ending tokens x that) e

at_least : (tokens : List Tok) (ending : PieceEnd) (next : UnitState → Piece) → length tokens ≤ length (behind_ending tokens ending next).tokens
at_least tokens (Continues u) next = omega (arith, length-append tokens (next u).tokens)
at_least tokens (IsOver stop) next = omega arith

and_then-loads : (loaded : ℕ) (piece other : Piece) (next that : UnitState → Piece) → LoadsMore loaded piece other
    → ((u : UnitState) → LoadsMore loaded (next u) (that (more_loaded loaded u))) → LoadsMore loaded (and_then piece next) (and_then other that)
and_then-loads loaded piece other next that (inl e) h =
    subst (λ (x : Piece). LoadsMore loaded (and_then piece next) (and_then x that)) (sym e) (behind_ending-loads loaded piece.tokens piece.ending next that h)
and_then-loads loaded piece other next that (inr k) h =
    subst (λ (x : Piece). LoadsMore loaded (and_then piece next) x) (sym (over_the_limit other.tokens other.ending that k.0))
    (inr (refl, omega (arith, k.1, at_least piece.tokens piece.ending next)))

-- each request gives such a piece
abbrev pub ReadsMore : ℕ → Reader → Type 0
ReadsMore loaded include = (request : HeaderRequest) (s : UnitState) → LoadsMore loaded (include request s) (include request (more_loaded loaded s))

text_piece-with : (loaded : ℕ) (groups : List Group) (text : List Tok) (s : UnitState)
    → text_piece groups text (more_loaded loaded s) ≡ piece_with loaded (text_piece groups text s)
text_piece-with loaded groups text s =
    elim (are_read groups) as (λ v.
    (elim v as (λ _. Piece) [ true ↦ expanded_in (more_loaded loaded s) text | false ↦ only_ending (Continues (more_loaded loaded s)) ])
    ≡ piece_with loaded (elim v as (λ _. Piece) [ true ↦ expanded_in s text | false ↦ only_ending (Continues s) ])) [
      | true ↦ expanded_in-with loaded s text
      | false ↦ refl
    ]

closed_file-loads : (loaded : ℕ) (groups : List Group) (s : UnitState) → LoadsMore loaded (closed_file groups s) (closed_file groups (more_loaded loaded s))
closed_file-loads loaded [] s = inl refl
closed_file-loads loaded (group ∷ groups) s = inl refl

turn_piece-loads : (loaded : ℕ) (include : Reader) → ReadsMore loaded include → (groups : List Group) (next : List Group → UnitState → Piece)
    → ((others : List Group) (u : UnitState) → LoadsMore loaded (next others u) (next others (more_loaded loaded u)))
    → (turn : Turn) → LoadsMore loaded (turn_piece include groups next turn) (turn_piece include groups next (turn_with loaded turn))
turn_piece-loads loaded include reads groups next h (Turns others s) = h others s
turn_piece-loads loaded include reads groups next h (Includes request s) =
    and_then-loads loaded (include request s) (include request (more_loaded loaded s)) (next groups) (next groups) (reads request s) (h groups)
turn_piece-loads loaded include reads groups next h (Halts stop) = inl refl

over_parts-loads : (loaded : ℕ) (value : Evaluation) (include : Reader) → ReadsMore loaded include → (parts : FileParts) (groups : List Group) (s : UnitState)
    → LoadsMore loaded (over_parts value include parts groups s) (over_parts value include parts groups (more_loaded loaded s))
over_parts-loads loaded value include reads (LastText text) groups s =
    and_then-loads loaded (text_piece groups text s) (text_piece groups text (more_loaded loaded s)) (closed_file groups) (closed_file groups)
    (inl (text_piece-with loaded groups text s)) (closed_file-loads loaded groups)
over_parts-loads loaded value include reads (DirectiveBehind text hash rest parts) groups s =
    let next : UnitState → Piece = λ u. turn_piece include groups (λ others v. over_parts value include parts others v) (turn_of value hash rest groups u) in
    and_then-loads loaded (text_piece groups text s) (text_piece groups text (more_loaded loaded s)) next next
    (inl (text_piece-with loaded groups text s))
    (λ u. subst (λ (turn : Turn). LoadsMore loaded (next u) (turn_piece include groups (λ others v. over_parts value include parts others v) turn))
    (sym (turn_of-with loaded value hash rest groups u))
    (turn_piece-loads loaded include reads groups (λ others v. over_parts value include parts others v)
    (λ others v. over_parts-loads loaded value include reads parts others v) (turn_of value hash rest groups u)))

stop_of_fault-with : (loaded : ℕ) (s : UnitState) (fault : LexFault) → stop_of_fault (more_loaded loaded s) fault ≡ stop_of_fault s fault
stop_of_fault-with loaded s (OpenComment at) = refl
stop_of_fault-with loaded s (OpenLiteral at) = refl

lexed_piece-loads : (loaded : ℕ) (value : Evaluation) (include : Reader) → ReadsMore loaded include → (found : Lexed) (s : UnitState)
    → LoadsMore loaded (lexed_piece value include found s) (lexed_piece value include found (more_loaded loaded s))
lexed_piece-loads loaded value include reads (Tokens tokens) s = over_parts-loads loaded value include reads (file_parts (lines_of tokens)) [] s
lexed_piece-loads loaded value include reads (Refused fault) s = inl (ap (λ (stop : Stop). only_ending (IsOver stop)) (stop_of_fault-with loaded s fault))

file_piece-loads : (loaded : ℕ) (value : Evaluation) (include : Reader) → ReadsMore loaded include → (found : FoundFile) (s : UnitState)
    → LoadsMore loaded (file_piece value include found s) (file_piece value include found (more_loaded loaded s))
file_piece-loads loaded value include reads found s =
    lexed_piece-loads loaded value include reads (lexed_file (number_from 1 s.paths found.path) found.bytes) (record s { paths = paths_with found.path s.paths })

-- Sizes

-- the sum of sizes is within the limit, or not
abbrev summed : Limits → ℕ → UnitState → (UnitState → Piece) → Piece
summed limits total s next = elim (nat_lt limits.all_files total) [
  | true ↦ only_ending (IsOver (Passes AllFiles))
  | false ↦ next (record s { bytes = total })
]

summed-over : (limits : Limits) (total : ℕ) (s : UnitState) (next : UnitState → Piece) → nat_lt limits.all_files total ≡ true
    → summed limits total s next ≡ only_ending (IsOver (Passes AllFiles))
summed-over limits total s next e =
    ap (λ v. elim v as (λ _. Piece) [ true ↦ only_ending (IsOver (Passes AllFiles)) | false ↦ next (record s { bytes = total }) ]) e

summed-within : (limits : Limits) (total : ℕ) (s : UnitState) (next : UnitState → Piece) → nat_lt limits.all_files total ≡ false
    → summed limits total s next ≡ next (record s { bytes = total })
summed-within limits total s next e =
    ap (λ v. elim v as (λ _. Piece) [ true ↦ only_ending (IsOver (Passes AllFiles)) | false ↦ next (record s { bytes = total }) ]) e

summed-loads : (loaded : ℕ) (limits : Limits) (size : ℕ) (s : UnitState) (next : UnitState → Piece)
    → ((u : UnitState) → LoadsMore loaded (next u) (next (more_loaded loaded u)))
    → LoadsMore loaded (summed limits (s.bytes + size) s next) (summed limits (s.bytes + loaded + size) (more_loaded loaded s) next)
summed-loads loaded limits size s next h =
    elim (cases_Bool (nat_lt limits.all_files (s.bytes + loaded + size))) [
      | inl over ↦
          subst (λ (x : Piece). LoadsMore loaded (summed limits (s.bytes + size) s next) x)
          (sym (summed-over limits (s.bytes + loaded + size) (more_loaded loaded s) next over)) (inr (refl, omega arith))
      | inr within ↦
          let fits = ltb-false limits.all_files (s.bytes + loaded + size) within in
          let same : s.bytes + size + loaded ≡ s.bytes + loaded + size = omega arith in
          let first = summed-within limits (s.bytes + size) s next (le-ltb limits.all_files (s.bytes + size) (omega (arith, fits))) in
          let second = summed-within limits (s.bytes + loaded + size) (more_loaded loaded s) next within in
          subst (λ (x : Piece). LoadsMore loaded x (summed limits (s.bytes + loaded + size) (more_loaded loaded s) next)) (sym first)
          (subst (λ (x : Piece). LoadsMore loaded (next (record s { bytes = s.bytes + size })) x) (sym second)
          (subst (λ (n : ℕ). LoadsMore loaded (next (record s { bytes = s.bytes + size })) (next (record s { bytes = n }))) same
          (h (record s { bytes = s.bytes + size }))))
    ]

pub sized-loads : (loaded : ℕ) (limits : Limits) (bytes : List ℕ) (s : UnitState) (next : UnitState → Piece)
    → ((u : UnitState) → LoadsMore loaded (next u) (next (more_loaded loaded u)))
    → LoadsMore loaded (sized limits bytes s next) (sized limits bytes (more_loaded loaded s) next)
sized-loads loaded limits bytes s next h =
    elim (nat_lt limits.file_size (length bytes)) as (λ v.
    LoadsMore loaded
    (elim v as (λ _. Piece) [ true ↦ only_ending (IsOver (Passes FileSize)) | false ↦ summed limits (s.bytes + length bytes) s next ])
    (elim v as (λ _. Piece) [
      | true ↦ only_ending (IsOver (Passes FileSize))
      | false ↦ summed limits (s.bytes + loaded + length bytes) (more_loaded loaded s) next
    ])) [
      | true ↦ inl refl
      | false ↦ summed-loads loaded limits (length bytes) s next h
    ]

found_piece-loads : (loaded : ℕ) (setting : Setting) (read : FoundFile → UnitState → Piece)
    → ((found : FoundFile) (u : UnitState) → LoadsMore loaded (read found u) (read found (more_loaded loaded u)))
    → (request : HeaderRequest) (found : Option FoundFile) (s : UnitState)
    → LoadsMore loaded (found_piece setting read request found s) (found_piece setting read request found (more_loaded loaded s))
found_piece-loads loaded setting read h request None s = inl refl
found_piece-loads loaded setting read h request (Some found) s = sized-loads loaded setting.limits found.bytes s (read found) (h found)

pub reader-loads : (loaded : ℕ) (setting : Setting) (depth : ℕ) → ReadsMore loaded (reader setting depth)
unfolding reader
reader-loads loaded setting zero request s =
    found_piece-loads loaded setting (λ found u. only_ending (IsOver (Passes IncludeDepth))) (λ found u. inl refl) request
    (first_found setting.files (paths_for request.header request.asking setting.options.directories)) s
reader-loads loaded setting (suc depth) request s =
    found_piece-loads loaded setting (file_piece setting.value (reader setting depth))
    (file_piece-loads loaded setting.value (reader setting depth) (reader-loads loaded setting depth)) request
    (first_found setting.files (paths_for request.header request.asking setting.options.directories)) s

-- FILE and the files that it includes, with so many bytes loaded before
pub main-loads : (loaded : ℕ) (setting : Setting) (found : FoundFile) (s : UnitState)
    → LoadsMore loaded (sized setting.limits found.bytes s (file_piece setting.value (reader setting setting.limits.include_depth) found))
    (sized setting.limits found.bytes (more_loaded loaded s) (file_piece setting.value (reader setting setting.limits.include_depth) found))
main-loads loaded setting found s =
    sized-loads loaded setting.limits found.bytes s (file_piece setting.value (reader setting setting.limits.include_depth) found)
    (file_piece-loads loaded setting.value (reader setting setting.limits.include_depth) (reader-loads loaded setting setting.limits.include_depth) found)

-- behind what is the same, with as many bytes loaded
pub behind_the_same : (loaded : ℕ) (tokens : List Tok) (ending : PieceEnd) (next that : UnitState → Piece)
    → ((u : UnitState) → LoadsMore loaded (next u) (that u)) → LoadsMore loaded (behind_ending tokens ending next) (behind_ending tokens ending that)
behind_the_same loaded tokens (Continues u) next that h = tokens_before-loads loaded tokens (next u) (that u) (h u)
behind_the_same loaded tokens (IsOver stop) next that h = inl refl

-- a piece that is over is the same
pub over_with : (loaded : ℕ) (behind_directive : Bool) (piece : Piece) → BreaksOffBefore behind_directive piece.ending → piece_with loaded piece ≡ piece
over_with loaded behind_directive piece h = ap (λ (ending : PieceEnd). record piece { ending = ending }) (ending_over loaded behind_directive piece.ending h)
