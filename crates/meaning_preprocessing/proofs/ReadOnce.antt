-- A file without `#include` is the same whatever an include would find.
use Rattle.std.proofs.Common.{◌≡◌, ℕ, ◌+◌, Bool, true, false, not, ◌&&◌, ◌==◌, List, [], ◌∷◌, length, Option, Some, None, nat_lt, refl, sym, ap, ◌∙◌, true≢false}
use Rattle.std.specs.Prelude.{⊤, Result, Ok, Err}
use Rattle.std.proofs.lemmas.Bool.{or_parts}
use Rattle.vocabulary.specs.declared.error_kind.ErrorKind.{ErrorKind}
use Rattle.vocabulary.specs.declared.error_kind.ErrorKind.TheVariants.{MalformedDirective, ConditionalAfterElse}
use Rattle.vocabulary.specs.declared.limit.LimitKind.TheVariants.{FileSize, AllFiles}
use Rattle.meaning_outside.specs.Files.{file_at}
use Rattle.meaning_text.specs.Logical.{logical_text}
use Rattle.meaning_text.specs.Tokens.{Tok, AtLineStart}
use Rattle.meaning_text.specs.Lexing.{Lexed, Tokens, Refused, lexed_file}
use Rattle.meaning_text.proofs.Lexing.{tokens_exist}
use Rattle.meaning_macros.specs.Signs.{is_identifier_kind}
use Rattle.meaning_macros.specs.Macros.{Definition}
use Rattle.meaning_conditions.specs.Answers.{Answer, HasValue, HasBadIndex, HasZeroDivisor}
use Rattle.meaning_preprocessing.specs.Lines.{FileParts, LastText, DirectiveBehind, lines_of, file_parts, DirectiveName, IfLine, IfdefLine, IfndefLine, ElifLine, ElseLine, EndifLine, IncludeLine, DefineLine, UndefLine, ErrorLine, UnreadLine, UnknownLine, directive_of, behind_word}
use Rattle.meaning_preprocessing.specs.DefinitionLines.{definition_behind, with_definition, without_definition}
use Rattle.meaning_preprocessing.specs.ConditionLines.{is_defined, Nothing, answered, with_undefined}
use Rattle.meaning_preprocessing.specs.State.{UnitState, paths_with, number_from, Passes, PieceEnd, Continues, IsOver, Piece, only_ending, tokens_before, behind_ending, and_then, refused, expanded_in}
use Rattle.meaning_preprocessing.specs.Groups.{Group, are_read, group_of, Turn, Turns, Includes, Halts, turn_of_ending, Evaluation, by_answer, evaluated_line, with_condition, same_truth, ifdef_turn, elif_turn, has_tokens, else_turn, endif_turn}
use Rattle.meaning_preprocessing.specs.Directives.{table_turn, definition_turn, undef_turn, read_turn, skipped_turn, turn_of}
use Rattle.meaning_preprocessing.specs.Unit.{Setting, Reader, reader, text_piece, turn_piece, over_parts, lexed_piece, file_piece, sized, command_piece, main_piece_of, main_piece, capped, first_state, unit_limits, unit_end, preprocessed}
use Rattle.meaning_preprocessing.specs.laws.LongerFiles.{is_include, ask_for_files, AsksForNoFile, FilesWithoutIncludesAreReadOnce}

-- Turns

-- no other file is read
abbrev AsksNone : Turn → Type 0
AsksNone (Turns groups s) = ⊤
AsksNone (Includes request s) = ⊥
AsksNone (Halts stop) = ⊤

turn_of_ending-none : (tokens : List Tok) (ending : PieceEnd) (next : List Tok → UnitState → Turn) → ((u : UnitState) → AsksNone (next tokens u))
    → AsksNone (turn_of_ending tokens ending next)
turn_of_ending-none tokens (Continues s) next h = h s
turn_of_ending-none tokens (IsOver stop) next h = tt

by_answer-none : (hash : Tok) (answer : Answer) (s : UnitState) (next : Bool → UnitState → Turn) → ((holds : Bool) (u : UnitState) → AsksNone (next holds u))
    → AsksNone (by_answer hash answer s next)
by_answer-none hash (HasValue number) s next h = h (not (number.bits == 0)) s
by_answer-none hash (HasBadIndex index) s next h = tt
by_answer-none hash (HasZeroDivisor index) s next h = tt

evaluated_line-none : (value : Evaluation) (hash : Tok) (tokens : Option (List Tok)) (s : UnitState) (next : Bool → UnitState → Turn)
    → ((holds : Bool) (u : UnitState) → AsksNone (next holds u)) → AsksNone (evaluated_line value hash tokens s next)
evaluated_line-none value hash None s next h = tt
evaluated_line-none value hash (Some tokens) s next h =
    turn_of_ending-none (expanded_in s tokens).tokens (expanded_in s tokens).ending (λ left u. by_answer hash (value left) (with_undefined left u) next)
    (λ u. by_answer-none hash (value (expanded_in s tokens).tokens) (with_undefined (expanded_in s tokens).tokens u) next h)

with_condition-none : (value : Evaluation) (hash : Tok) (rest : List Tok) (s : UnitState) (next : Bool → UnitState → Turn)
    → ((holds : Bool) (u : UnitState) → AsksNone (next holds u)) → AsksNone (with_condition value hash rest s next)
with_condition-none value hash rest s next h = evaluated_line-none value hash (answered s.definitions Nothing rest) s next h

either_none : (holds : Bool) (first second : Turn) → AsksNone first → AsksNone second
    → AsksNone (elim holds as (λ _. Turn) [ true ↦ first | false ↦ second ])
either_none true first second h k = h
either_none false first second h k = k

ifdef_turn-none : (wanted : Bool) (hash : Tok) (rest : List Tok) (groups : List Group) (s : UnitState) → AsksNone (ifdef_turn wanted hash rest groups s)
ifdef_turn-none wanted hash [] groups s = tt
ifdef_turn-none wanted hash (t ∷ u ∷ rest) groups s = tt
ifdef_turn-none wanted hash (t ∷ []) groups s =
    either_none (is_identifier_kind t.kind) (Turns (group_of hash (same_truth wanted (is_defined s.definitions t.text)) ∷ groups) s)
    (Halts (refused s MalformedDirective hash.at [])) tt tt

elif_turn-none : (value : Evaluation) (hash : Tok) (rest : List Tok) (groups : List Group) (s : UnitState) → AsksNone (elif_turn value hash rest groups s)
elif_turn-none value hash rest [] s = tt
elif_turn-none value hash rest (group ∷ groups) s =
    let next : Bool → UnitState → Turn = λ holds u. Turns (record group { taken = holds; reads = holds } ∷ groups) u in
    let inner : Turn = elim (group.outer && not group.taken) as (λ _. Turn) [
      | true ↦ with_condition value hash rest s next
      | false ↦ Turns (record group { reads = false } ∷ groups) s
    ] in
    either_none group.last (Halts (refused s ConditionalAfterElse hash.at [])) inner tt
    (either_none (group.outer && not group.taken) (with_condition value hash rest s next) (Turns (record group { reads = false } ∷ groups) s)
    (with_condition-none value hash rest s next (λ holds u. tt)) tt)

else_turn-none : (hash : Tok) (rest : List Tok) (groups : List Group) (s : UnitState) → AsksNone (else_turn hash rest groups s)
else_turn-none hash rest [] s = tt
else_turn-none hash rest (group ∷ groups) s =
    let open_part : Group = record group { taken = true; reads = group.outer && not group.taken; last = true } in
    let inner : Turn = elim (group.outer && has_tokens rest) as (λ _. Turn) [
      | true ↦ Halts (refused s MalformedDirective hash.at [])
      | false ↦ Turns (open_part ∷ groups) s
    ] in
    either_none group.last (Halts (refused s ConditionalAfterElse hash.at [])) inner tt
    (either_none (group.outer && has_tokens rest) (Halts (refused s MalformedDirective hash.at [])) (Turns (open_part ∷ groups) s) tt tt)

endif_turn-none : (hash : Tok) (rest : List Tok) (groups : List Group) (s : UnitState) → AsksNone (endif_turn hash rest groups s)
endif_turn-none hash rest [] s = tt
endif_turn-none hash rest (group ∷ groups) s =
    either_none (group.outer && has_tokens rest) (Halts (refused s MalformedDirective hash.at [])) (Turns groups s) tt tt

table_turn-none : (hash : Tok) (definition : Definition) (table : Result (List Definition) ErrorKind) (groups : List Group) (s : UnitState)
    → AsksNone (table_turn hash definition table groups s)
table_turn-none hash definition (Ok definitions) groups s = tt
table_turn-none hash definition (Err kind) groups s = tt

definition_turn-none : (hash : Tok) (found : Result Definition ErrorKind) (groups : List Group) (s : UnitState) → AsksNone (definition_turn hash found groups s)
definition_turn-none hash (Err kind) groups s = tt
definition_turn-none hash (Ok definition) groups s = table_turn-none hash definition (with_definition definition s.definitions) groups s

undef_turn-none : (hash : Tok) (rest : List Tok) (groups : List Group) (s : UnitState) → AsksNone (undef_turn hash rest groups s)
undef_turn-none hash [] groups s = tt
undef_turn-none hash (t ∷ u ∷ rest) groups s = tt
undef_turn-none hash (t ∷ []) groups s =
    either_none (is_identifier_kind t.kind) (Turns groups (record s { definitions = without_definition t.text s.definitions }))
    (Halts (refused s MalformedDirective hash.at [])) tt tt

read_turn-none : (value : Evaluation) (name : DirectiveName) (hash : Tok) (rest : List Tok) (groups : List Group) (s : UnitState)
    → is_include name ≡ false → AsksNone (read_turn value name hash rest groups s)
read_turn-none value IfLine hash rest groups s e =
    with_condition-none value hash rest s (λ holds u. Turns (group_of hash holds ∷ groups) u) (λ holds u. tt)
read_turn-none value IfdefLine hash rest groups s e = ifdef_turn-none true hash rest groups s
read_turn-none value IfndefLine hash rest groups s e = ifdef_turn-none false hash rest groups s
read_turn-none value ElifLine hash rest groups s e = elif_turn-none value hash rest groups s
read_turn-none value ElseLine hash rest groups s e = else_turn-none hash rest groups s
read_turn-none value EndifLine hash rest groups s e = endif_turn-none hash rest groups s
read_turn-none value IncludeLine hash rest groups s e = absurd (true≢false e)
read_turn-none value DefineLine hash rest groups s e = definition_turn-none hash (definition_behind rest) groups s
read_turn-none value UndefLine hash rest groups s e = undef_turn-none hash rest groups s
read_turn-none value ErrorLine hash rest groups s e = tt
read_turn-none value UnreadLine hash rest groups s e = tt
read_turn-none value UnknownLine hash rest groups s e = tt

skipped_turn-none : (value : Evaluation) (name : DirectiveName) (hash : Tok) (rest : List Tok) (groups : List Group) (s : UnitState)
    → AsksNone (skipped_turn value name hash rest groups s)
skipped_turn-none value IfLine hash rest groups s = tt
skipped_turn-none value IfdefLine hash rest groups s = tt
skipped_turn-none value IfndefLine hash rest groups s = tt
skipped_turn-none value ElifLine hash rest groups s = elif_turn-none value hash rest groups s
skipped_turn-none value ElseLine hash rest groups s = else_turn-none hash rest groups s
skipped_turn-none value EndifLine hash rest groups s = endif_turn-none hash rest groups s
skipped_turn-none value IncludeLine hash rest groups s = tt
skipped_turn-none value DefineLine hash rest groups s = tt
skipped_turn-none value UndefLine hash rest groups s = tt
skipped_turn-none value ErrorLine hash rest groups s = tt
skipped_turn-none value UnreadLine hash rest groups s = tt
skipped_turn-none value UnknownLine hash rest groups s = tt

turn_of-none : (value : Evaluation) (hash : Tok) (rest : List Tok) (groups : List Group) (s : UnitState) → is_include (directive_of rest) ≡ false
    → AsksNone (turn_of value hash rest groups s)
turn_of-none value hash rest groups s e =
    either_none (are_read groups) (read_turn value (directive_of rest) hash (behind_word rest) groups s)
    (skipped_turn value (directive_of rest) hash (behind_word rest) groups s)
    (read_turn-none value (directive_of rest) hash (behind_word rest) groups s e)
    (skipped_turn-none value (directive_of rest) hash (behind_word rest) groups s)

-- Pieces

behind_ending-same : (tokens : List Tok) (ending : PieceEnd) (next that : UnitState → Piece) → ((u : UnitState) → next u ≡ that u)
    → behind_ending tokens ending next ≡ behind_ending tokens ending that
behind_ending-same tokens (Continues u) next that h = ap (tokens_before tokens) (h u)
behind_ending-same tokens (IsOver stop) next that h = refl

turn_piece-same : (include other : Reader) (groups : List Group) (next that : List Group → UnitState → Piece) (turn : Turn) → AsksNone turn
    → ((others : List Group) (u : UnitState) → next others u ≡ that others u) → turn_piece include groups next turn ≡ turn_piece other groups that turn
turn_piece-same include other groups next that (Turns others u) none h = h others u
turn_piece-same include other groups next that (Includes request u) none h = absurd none
turn_piece-same include other groups next that (Halts stop) none h = refl

over_parts-same : (value : Evaluation) (include other : Reader) (parts : FileParts) (groups : List Group) (s : UnitState) → ask_for_files parts ≡ false
    → over_parts value include parts groups s ≡ over_parts value other parts groups s
over_parts-same value include other (LastText text) groups s none = refl
over_parts-same value include other (DirectiveBehind text hash rest parts) groups s none =
    let both = or_parts (is_include (directive_of rest)) (ask_for_files parts) none in
    behind_ending-same (text_piece groups text s).tokens (text_piece groups text s).ending
    (λ u. turn_piece include groups (λ others v. over_parts value include parts others v) (turn_of value hash rest groups u))
    (λ u. turn_piece other groups (λ others v. over_parts value other parts others v) (turn_of value hash rest groups u))
    (λ u.
    turn_piece-same include other groups (λ others v. over_parts value include parts others v) (λ others v. over_parts value other parts others v)
    (turn_of value hash rest groups u) (turn_of-none value hash rest groups u both.0)
    (λ others v. over_parts-same value include other parts others v both.1))

lexed_piece-same : (value : Evaluation) (include other : Reader) (file : ℕ) (text : List ℕ) (found : Lexed) (s : UnitState) → AsksForNoFile text
    → lexed_file file text ≡ found → lexed_piece value include found s ≡ lexed_piece value other found s
lexed_piece-same value include other file text (Tokens tokens) s none is =
    over_parts-same value include other (file_parts (lines_of tokens)) [] s (none file tokens (tokens_exist AtLineStart (logical_text file text) tokens is))
lexed_piece-same value include other file text (Refused fault) s none is = refl

sized-same : (bytes : List ℕ) (s : UnitState) (next that : UnitState → Piece) → ((u : UnitState) → next u ≡ that u)
    → sized unit_limits bytes s next ≡ sized unit_limits bytes s that
sized-same bytes s next that h =
    ap (λ (x : Piece). elim (nat_lt unit_limits.file_size (length bytes)) as (λ _. Piece) [
      | true ↦ only_ending (IsOver (Passes FileSize))
      | false ↦ elim (nat_lt unit_limits.all_files (s.bytes + length bytes)) as (λ _. Piece) [
        | true ↦ only_ending (IsOver (Passes AllFiles))
        | false ↦ x
      ]
    ]) (h (record s { bytes = s.bytes + length bytes }))

-- Units

pub files_without_includes_are_read_once : FilesWithoutIncludesAreReadOnce
unfolding preprocessed
files_without_includes_are_read_once value options files path text found no_command none others differ =
    let setting : Setting = record { options = options; files = file_at files; value = value; limits = unit_limits } in
    let other : Setting = record { options = options; files = file_at others; value = value; limits = unit_limits } in
    let include : Reader = reader other unit_limits.include_depth in
    let that : Reader = reader setting unit_limits.include_depth in
    let s : UnitState = first_state unit_limits path in
    let main : (u : UnitState) → main_piece_of other path (Some text) u ≡ main_piece setting path u =
    λ u.
    sized-same text u (file_piece value include (record { path = path; bytes = text })) (file_piece value that (record { path = path; bytes = text }))
    (λ v.
    lexed_piece-same value include that (number_from 1 v.paths path) text (lexed_file (number_from 1 v.paths path) text)
    (record v { paths = paths_with path v.paths }) none refl)
    ∙ ap (λ (bytes : Option (List ℕ)). main_piece_of setting path bytes u) (sym found) in
    let command : command_piece other s ≡ command_piece setting s =
    lexed_piece-same value include that 0 options.command (lexed_file 0 options.command) s no_command refl in
    ap (λ (piece : Piece). record { tokens = (capped unit_limits.unit_tokens piece).tokens; end = unit_end (capped unit_limits.unit_tokens piece).ending })
    (ap (λ (piece : Piece). and_then piece (main_piece_of other path (Some text))) command
    ∙ behind_ending-same (command_piece setting s).tokens (command_piece setting s).ending (main_piece_of other path (Some text)) (main_piece setting path) main)
