-- Lines have all tokens, and behind a directive they are read in what the lines before leave.
use Rattle.std.proofs.Common.{◌≡◌, true, false, List, [], ◌∷◌, ◌++◌, ◌⊎◌, inl, inr, refl, ap, sym, ◌∙◌, append_assoc}
use Rattle.meaning_text.specs.Tokens.{Tok, is_hash}
use Rattle.meaning_preprocessing.specs.Lines.{Line, before_lines, lines_of, FileParts, LastText, DirectiveBehind, text_before, file_parts}
use Rattle.meaning_preprocessing.specs.State.{UnitState, PieceEnd, Continues, IsOver, Piece, tokens_before, behind_ending}
use Rattle.meaning_preprocessing.specs.Groups.{Group, Turn, Turns, Includes, Halts, Evaluation}
use Rattle.meaning_preprocessing.specs.Directives.{turn_of}
use Rattle.meaning_preprocessing.specs.Unit.{Reader, text_piece, turn_piece, over_parts}
use Rattle.meaning_preprocessing.specs.laws.Lines.{tokens_of_lines, LinesHaveAllTokens, EndsBefore, GoesOnBehind, LinesBehindADirective}

before_lines-tokens : (t : Tok) (lines : List Line) → tokens_of_lines (before_lines t lines) ≡ t ∷ tokens_of_lines lines
before_lines-tokens t [] = refl
before_lines-tokens t (line ∷ lines) =
    elim line.first.line_start as (λ v.
    tokens_of_lines (elim v as (λ _. List Line) [
      | true ↦ record { first = t; rest = [] } ∷ line ∷ lines
      | false ↦ record { first = t; rest = line.first ∷ line.rest } ∷ lines
    ])
    ≡ t ∷ tokens_of_lines (line ∷ lines)) [
      | true ↦ refl
      | false ↦ refl
    ]

pub lines_have_all_tokens : LinesHaveAllTokens
lines_have_all_tokens [] = refl
lines_have_all_tokens (t ∷ ts) = before_lines-tokens t (lines_of ts) ∙ ap (λ us. t ∷ us) (lines_have_all_tokens ts)

tokens_before-twice : (ts us : List Tok) (piece : Piece) → tokens_before ts (tokens_before us piece) ≡ tokens_before (ts ++ us) piece
tokens_before-twice ts us piece = ap (λ (all : List Tok). record piece { tokens = all }) (sym (append_assoc ts us piece.tokens))

-- whatever parts follow: they change nothing, or they are read in what is before them
abbrev BehindParts : Evaluation → Reader → (FileParts → Piece) → Type 0
BehindParts value include piece =
    ((all : Piece) × ((parts : FileParts) → piece parts ≡ all))
    ⊎ ((tokens : List Tok) × (groups : List Group) × (s : UnitState)
    × ((parts : FileParts) → piece parts ≡ tokens_before tokens (over_parts value include parts groups s)))

behind_tokens : (value : Evaluation) (include : Reader) (tokens : List Tok) (piece : FileParts → Piece) → BehindParts value include piece
    → BehindParts value include (λ parts. tokens_before tokens (piece parts))
behind_tokens value include tokens piece (inl h) = inl (tokens_before tokens h.0, λ parts. ap (tokens_before tokens) (h.1 parts))
behind_tokens value include tokens piece (inr h) =
    inr (
      tokens ++ h.0,
      h.1,
      h.2,
      λ parts.
          ap (tokens_before tokens) (h.3 parts)
          ∙ tokens_before-twice tokens h.0 (over_parts value include parts h.1 h.2),
    )

behind_end : (value : Evaluation) (include : Reader) (tokens : List Tok) (ending : PieceEnd) (next : FileParts → UnitState → Piece)
    → ((u : UnitState) → BehindParts value include (λ parts. next parts u))
    → BehindParts value include (λ parts. behind_ending tokens ending (next parts))
behind_end value include tokens (Continues u) next h = behind_tokens value include tokens (λ parts. next parts u) (h u)
behind_end value include tokens (IsOver stop) next h = inl (record { tokens = tokens; ending = IsOver stop }, λ parts. refl)

behind_turn : (value : Evaluation) (include : Reader) (groups : List Group) (turn : Turn)
    → BehindParts value include (λ parts. turn_piece include groups (λ others v. over_parts value include parts others v) turn)
behind_turn value include groups (Turns others v) = inr ([], others, v, λ parts. refl)
behind_turn value include groups (Includes request v) =
    behind_end value include (include request v).tokens (include request v).ending (λ parts w. over_parts value include parts groups w)
    (λ w. inr ([], groups, w, λ parts. refl))
behind_turn value include groups (Halts stop) = inl (record { tokens = []; ending = IsOver stop }, λ parts. refl)

behind_directive : (value : Evaluation) (include : Reader) (text : List Tok) (hash : Tok) (rest : List Tok) (groups : List Group) (s : UnitState)
    → BehindParts value include (λ parts. over_parts value include (DirectiveBehind text hash rest parts) groups s)
behind_directive value include text hash rest groups s =
    behind_end value include (text_piece groups text s).tokens (text_piece groups text s).ending
    (λ parts u. turn_piece include groups (λ others v. over_parts value include parts others v) (turn_of value hash rest groups u))
    (λ u. behind_turn value include groups (turn_of value hash rest groups u))

-- with text before
abbrev pub prepended : List Tok → FileParts → FileParts
prepended tokens (LastText text) = LastText (tokens ++ text)
prepended tokens (DirectiveBehind text hash rest parts) = DirectiveBehind (tokens ++ text) hash rest parts

pub prepended-nothing : (parts : FileParts) → prepended [] parts ≡ parts
prepended-nothing (LastText text) = refl
prepended-nothing (DirectiveBehind text hash rest parts) = refl

prepended-line : (tokens : List Tok) (line : Line) (parts : FileParts)
    → prepended tokens (text_before line parts) ≡ prepended (tokens ++ line.first ∷ line.rest) parts
prepended-line tokens line (LastText text) = ap LastText (sym (append_assoc tokens (line.first ∷ line.rest) text))
prepended-line tokens line (DirectiveBehind text hash rest parts) =
    ap (λ (all : List Tok). DirectiveBehind all hash rest parts) (sym (append_assoc tokens (line.first ∷ line.rest) text))

pub file_parts-directive : (line : Line) (lines : List Line) → is_hash line.first.kind ≡ true
    → file_parts (line ∷ lines) ≡ DirectiveBehind [] line.first line.rest (file_parts lines)
file_parts-directive line lines e =
    ap (λ v. elim v as (λ _. FileParts) [
      | true ↦ DirectiveBehind [] line.first line.rest (file_parts lines)
      | false ↦ text_before line (file_parts lines)
    ]) e

pub file_parts-text : (line : Line) (lines : List Line) → is_hash line.first.kind ≡ false → file_parts (line ∷ lines) ≡ text_before line (file_parts lines)
file_parts-text line lines e =
    ap (λ v. elim v as (λ _. FileParts) [
      | true ↦ DirectiveBehind [] line.first line.rest (file_parts lines)
      | false ↦ text_before line (file_parts lines)
    ]) e

abbrev BehindLines : Evaluation → Reader → (List Line → Piece) → Type 0
BehindLines value include piece = EndsBefore piece ⊎ GoesOnBehind value include piece

-- by an equal piece
same_behind : (value : Evaluation) (include : Reader) (piece other : List Line → Piece) → ((lines : List Line) → piece lines ≡ other lines)
    → BehindLines value include other → BehindLines value include piece
same_behind value include piece other same (inl h) = inl (h.0, λ lines. same lines ∙ h.1 lines)
same_behind value include piece other same (inr h) = inr (h.0, h.1, h.2, λ lines. same lines ∙ h.3 lines)

lines_behind_tokens : (value : Evaluation) (include : Reader) (tokens : List Tok) (piece : List Line → Piece) → BehindLines value include piece
    → BehindLines value include (λ lines. tokens_before tokens (piece lines))
lines_behind_tokens value include tokens piece (inl h) = inl (tokens_before tokens h.0, λ lines. ap (tokens_before tokens) (h.1 lines))
lines_behind_tokens value include tokens piece (inr h) =
    inr (
      tokens ++ h.0,
      h.1,
      h.2,
      λ lines.
          ap (tokens_before tokens) (h.3 lines)
          ∙ tokens_before-twice tokens h.0 (over_parts value include (file_parts lines) h.1 h.2),
    )

-- parts that are those of lines, behind a directive
lines_of_parts : (value : Evaluation) (include : Reader) (piece : FileParts → Piece) (parts : List Line → FileParts) → BehindParts value include piece
    → ((groups : List Group) (s : UnitState) → BehindLines value include (λ lines. over_parts value include (parts lines) groups s))
    → BehindLines value include (λ lines. piece (parts lines))
lines_of_parts value include piece parts (inl h) later = inl (h.0, λ lines. h.1 (parts lines))
lines_of_parts value include piece parts (inr h) later =
    same_behind value include (λ lines. piece (parts lines)) (λ lines. tokens_before h.0 (over_parts value include (parts lines) h.1 h.2))
    (λ lines. h.3 (parts lines))
    (lines_behind_tokens value include h.0 (λ lines. over_parts value include (parts lines) h.1 h.2) (later h.1 h.2))

-- without text before
unprepended : (value : Evaluation) (include : Reader) (before : List Line) (directive : Line) (groups : List Group) (s : UnitState)
    → BehindLines value include (λ lines. over_parts value include (prepended [] (file_parts (before ++ directive ∷ lines))) groups s)
    → BehindLines value include (λ lines. over_parts value include (file_parts (before ++ directive ∷ lines)) groups s)
unprepended value include before directive groups s h =
    same_behind value include (λ lines. over_parts value include (file_parts (before ++ directive ∷ lines)) groups s)
    (λ lines. over_parts value include (prepended [] (file_parts (before ++ directive ∷ lines))) groups s)
    (λ lines. ap (λ (parts : FileParts). over_parts value include parts groups s) (sym (prepended-nothing (file_parts (before ++ directive ∷ lines))))) h

-- the same behind lines, with text before them
behind_lines : (value : Evaluation) (include : Reader) (before : List Line) (directive : Line) → is_hash directive.first.kind ≡ true
    → (tokens : List Tok) (groups : List Group) (s : UnitState)
    → BehindLines value include (λ lines. over_parts value include (prepended tokens (file_parts (before ++ directive ∷ lines))) groups s)
behind_lines value include [] directive e tokens groups s =
    same_behind value include (λ lines. over_parts value include (prepended tokens (file_parts (directive ∷ lines))) groups s)
    (λ lines. over_parts value include (DirectiveBehind (tokens ++ []) directive.first directive.rest (file_parts lines)) groups s)
    (λ lines. ap (λ (parts : FileParts). over_parts value include (prepended tokens parts) groups s) (file_parts-directive directive lines e))
    (lines_of_parts value include (λ parts. over_parts value include (DirectiveBehind (tokens ++ []) directive.first directive.rest parts) groups s)
    file_parts (behind_directive value include (tokens ++ []) directive.first directive.rest groups s)
    (λ others u. inr ([], others, u, λ lines. refl)))
behind_lines value include (line ∷ before) directive e tokens groups s =
    elim (is_hash line.first.kind) as (λ v. is_hash line.first.kind ≡ v
    → BehindLines value include (λ lines. over_parts value include (prepended tokens (file_parts (line ∷ before ++ directive ∷ lines))) groups s)) [
      | true ↦ λ h.
          same_behind value include (λ lines. over_parts value include (prepended tokens (file_parts (line ∷ before ++ directive ∷ lines))) groups s)
          (λ lines. over_parts value include (DirectiveBehind (tokens ++ []) line.first line.rest (file_parts (before ++ directive ∷ lines))) groups s)
          (λ lines. ap (λ (parts : FileParts). over_parts value include (prepended tokens parts) groups s) (file_parts-directive line (before ++ directive ∷ lines) h))
          (lines_of_parts value include (λ parts. over_parts value include (DirectiveBehind (tokens ++ []) line.first line.rest parts) groups s)
          (λ lines. file_parts (before ++ directive ∷ lines)) (behind_directive value include (tokens ++ []) line.first line.rest groups s)
          (λ others u. unprepended value include before directive others u (behind_lines value include before directive e [] others u)))
      | false ↦ λ h.
          same_behind value include (λ lines. over_parts value include (prepended tokens (file_parts (line ∷ before ++ directive ∷ lines))) groups s)
          (λ lines. over_parts value include (prepended (tokens ++ line.first ∷ line.rest) (file_parts (before ++ directive ∷ lines))) groups s)
          (λ lines.
          ap (λ (parts : FileParts). over_parts value include (prepended tokens parts) groups s) (file_parts-text line (before ++ directive ∷ lines) h)
          ∙ ap (λ (parts : FileParts). over_parts value include parts groups s) (prepended-line tokens line (file_parts (before ++ directive ∷ lines))))
          (behind_lines value include before directive e (tokens ++ line.first ∷ line.rest) groups s)
    ] refl

pub lines_behind_a_directive : LinesBehindADirective
lines_behind_a_directive value include before directive groups s e =
    unprepended value include before directive groups s (behind_lines value include before directive e [] groups s)
