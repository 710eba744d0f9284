-- What holds of the lines of a file.
use Rattle.std.specs.Prelude.{◌≡◌, Bool, true, false, ◌&&◌, List, [], ◌∷◌, ◌++◌, ◌⊎◌}
use Rattle.vocabulary.specs.declared.error_kind.ErrorKind.{ErrorKind}
use Rattle.vocabulary.specs.declared.error_kind.ErrorKind.TheVariants.{UnterminatedConditional}
use Rattle.meaning_text.specs.Tokens.{Tok, is_hash}
use Rattle.meaning_preprocessing.specs.Lines.{Line, lines_of, file_parts, directive_of, is_conditional}
use Rattle.meaning_preprocessing.specs.State.{UnitState, Stop, Refuses, Passes, IsOver, Piece, tokens_before}
use Rattle.meaning_preprocessing.specs.Groups.{Group, are_read, Evaluation}
use Rattle.meaning_preprocessing.specs.Unit.{Reader, over_parts}

-- the tokens of lines, in order
abbrev pub tokens_of_lines : List Line → List Tok
tokens_of_lines [] = []
tokens_of_lines (line ∷ lines) = (line.first ∷ line.rest) ++ tokens_of_lines lines

-- lines have all tokens, in order
abbrev pub LinesHaveAllTokens : Type 0
LinesHaveAllTokens = (tokens : List Tok) → tokens_of_lines (lines_of tokens) ≡ tokens

-- the lines of a file within its open groups
abbrev pub over_lines : Evaluation → Reader → List Line → List Group → UnitState → Piece
over_lines value include lines groups s = over_parts value include (file_parts lines) groups s

-- the line is one of the six directives that are looked at where lines are skipped
abbrev pub is_conditional_line : Line → Bool
is_conditional_line line = is_hash line.first.kind && is_conditional (directive_of line.rest)

-- in a group that is skipped each other line may be left out
abbrev pub SkippedLinesDoNotShow : Type 0
SkippedLinesDoNotShow =
    (value : Evaluation) (include : Reader) (line : Line) (lines : List Line) (groups : List Group) (s : UnitState)
    → are_read groups ≡ false → is_conditional_line line ≡ false
    → over_lines value include (line ∷ lines) groups s ≡ over_lines value include lines groups s

-- Lines behind a directive

-- whatever they are, they change nothing: the file ends before them
abbrev pub EndsBefore : (List Line → Piece) → Type 0
EndsBefore piece = (all : Piece) × ((lines : List Line) → piece lines ≡ all)

-- they are read within the groups and in the state that the lines before them leave
abbrev pub GoesOnBehind : Evaluation → Reader → (List Line → Piece) → Type 0
GoesOnBehind value include piece =
    (tokens : List Tok) × (groups : List Group) × (s : UnitState)
    × ((lines : List Line) → piece lines ≡ tokens_before tokens (over_lines value include lines groups s))

-- one of the two, behind some lines and a directive
abbrev pub LinesBehindADirective : Type 0
LinesBehindADirective =
    (value : Evaluation) (include : Reader) (before : List Line) (directive : Line) (groups : List Group) (s : UnitState)
    → is_hash directive.first.kind ≡ true
    → EndsBefore (λ lines. over_lines value include (before ++ directive ∷ lines) groups s)
    ⊎ GoesOnBehind value include (λ lines. over_lines value include (before ++ directive ∷ lines) groups s)

-- the error tells of a group that is open at the end of its file
abbrev pub tells_open_group : ErrorKind → Bool
tells_open_group UnterminatedConditional = true
tells_open_group kind = false

abbrev pub stops_at_open_group : Stop → Bool
stops_at_open_group (Refuses error) = tells_open_group error.kind
stops_at_open_group (Passes limit) = false

-- Where a file breaks off although nothing stands behind a directive, for another reason than an open group, whatever stands
-- there changes nothing.
abbrev pub LinesBehindTheEnd : Type 0
LinesBehindTheEnd =
    (value : Evaluation) (include : Reader) (before : List Line) (directive : Line) (groups : List Group) (s : UnitState) (stop : Stop)
    → is_hash directive.first.kind ≡ true → (over_lines value include (before ++ directive ∷ []) groups s).ending ≡ IsOver stop
    → stops_at_open_group stop ≡ false
    → (lines : List Line) → over_lines value include (before ++ directive ∷ lines) groups s ≡ over_lines value include (before ++ directive ∷ []) groups s
