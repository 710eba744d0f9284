-- The preprocessed unit (C11 5.1.1.2 phases 3 and 4): what options, a map of files and a path become.
use Rattle.std.specs.Prelude.{◌≡◌, ℕ, zero, suc, ◌+◌, true, false, nat_lt, List, [], ◌∷◌, length, take, Option, Some, None, codes}
use Rattle.vocabulary.specs.declared.token_kind.TokenKind.TheVariants.{Number}
use Rattle.vocabulary.specs.declared.error_kind.ErrorKind.TheVariants.{NoSuchFile, IncludeNotFound, UnterminatedComment, UnterminatedLiteral}
use Rattle.vocabulary.specs.declared.limit.LimitKind.TheVariants.{FileSize, AllFiles, IncludeDepth, UnitTokens}
use Rattle.meaning_outside.specs.Files.{FileMap, file_at}
use Rattle.meaning_text.specs.Places.{start_of, main_file}
use Rattle.meaning_text.specs.Tokens.{Tok, LexFault, OpenComment, OpenLiteral}
use Rattle.meaning_text.specs.Lexing.{Lexed, Tokens, Refused, lexed_file}
use Rattle.meaning_macros.specs.Macros.{Definition}
use Rattle.meaning_conditions.specs.Answers.{IsIfAnswer}
use Rattle.meaning_preprocessing.specs.Lines.{FileParts, LastText, DirectiveBehind, lines_of, file_parts}
use Rattle.meaning_preprocessing.specs.DefinitionLines.{macro_without_list}
use Rattle.meaning_preprocessing.specs.State.{UnitState, paths_with, number_from, Stop, Passes, PieceEnd, Continues, IsOver, Piece, only_ending, and_then, refused, expanded_in}
use Rattle.meaning_preprocessing.specs.Search.{HeaderRequest, name_of_header, paths_for, Files, FoundFile, first_found}
use Rattle.meaning_preprocessing.specs.Groups.{Group, are_read, Turn, Turns, Includes, Halts, Evaluation, closed_file}
use Rattle.meaning_preprocessing.specs.Directives.{turn_of}

-- What is asked

-- the directories of the search in order, and the text of the file `<command>`
pub record Options : Type 0 where
  pub directories : List (List ℕ)
  pub command : List ℕ

-- the numbers that may be reached and not passed
pub record Limits : Type 0 where
  -- bytes of one file, and of all together: a file counts each time it is read
  pub file_size : ℕ
  pub all_files : ℕ
  -- how deep files are included in files; the first has the depth 0
  pub include_depth : ℕ
  pub replacements : ℕ
  pub made_tokens : ℕ
  pub unit_tokens : ℕ

pub record Setting : Type 0 where
  pub options : Options
  pub files : Files
  -- what the tokens of an `#if` come to
  pub value : Evaluation
  pub limits : Limits

-- One file

-- the text before a directive is replaced as one list, where it is read
abbrev pub text_piece : List Group → List Tok → UnitState → Piece
text_piece groups text s = elim (are_read groups) [
  | true ↦ expanded_in s text
  | false ↦ only_ending (Continues s)
]

-- reads another file
abbrev pub Reader : Type 0
Reader = HeaderRequest → UnitState → Piece

-- what a directive does within these groups, and then what follows it in its file
abbrev pub turn_piece : Reader → List Group → (List Group → UnitState → Piece) → Turn → Piece
turn_piece include groups next (Turns others s) = next others s
turn_piece include groups next (Includes request s) = and_then (include request s) (λ u. next groups u)
turn_piece include groups next (Halts stop) = only_ending (IsOver stop)

-- The parts of a file within its open groups. At a directive the text before it comes first, and at the end of the file the
-- last text comes before a group that is open.
abbrev pub over_parts : Evaluation → Reader → FileParts → List Group → UnitState → Piece
over_parts value include (LastText text) groups s = and_then (text_piece groups text s) (λ u. closed_file groups u)
over_parts value include (DirectiveBehind text hash rest parts) groups s =
    and_then (text_piece groups text s) (λ u.
    turn_piece include groups (λ others v. over_parts value include parts others v) (turn_of value hash rest groups u))

-- a comment or a literal is never closed
abbrev pub stop_of_fault : UnitState → LexFault → Stop
stop_of_fault s (OpenComment at) = refused s UnterminatedComment at []
stop_of_fault s (OpenLiteral at) = refused s UnterminatedLiteral at []

abbrev pub lexed_piece : Evaluation → Reader → Lexed → UnitState → Piece
lexed_piece value include (Tokens tokens) s = over_parts value include (file_parts (lines_of tokens)) [] s
lexed_piece value include (Refused fault) s = only_ending (IsOver (stop_of_fault s fault))

-- a text as the file with this number: all its tokens are made before its first line is read
abbrev pub text_of_file : Evaluation → Reader → ℕ → List ℕ → UnitState → Piece
text_of_file value include number bytes s = lexed_piece value include (lexed_file number bytes) s

-- the same of a file with a path
abbrev pub file_piece : Evaluation → Reader → FoundFile → UnitState → Piece
file_piece value include found s =
    text_of_file value include (number_from 1 s.paths found.path) found.bytes (record s { paths = paths_with found.path s.paths })

-- Files in files

-- the size of a file, then that of all, and then what follows
abbrev pub sized : Limits → List ℕ → UnitState → (UnitState → Piece) → Piece
sized limits bytes s next = elim (nat_lt limits.file_size (length bytes)) [
  | true ↦ only_ending (IsOver (Passes FileSize))
  | false ↦ elim (nat_lt limits.all_files (s.bytes + length bytes)) [
    | true ↦ only_ending (IsOver (Passes AllFiles))
    | false ↦ next (record s { bytes = s.bytes + length bytes })
  ]
]

-- the file that was looked for
abbrev pub found_piece : Setting → (FoundFile → UnitState → Piece) → HeaderRequest → Option FoundFile → UnitState → Piece
found_piece setting read request None s =
    only_ending (IsOver (refused s IncludeNotFound request.place (name_of_header request.header)))
found_piece setting read request (Some found) s = sized setting.limits found.bytes s (read found)

-- the file that is asked for, which is read so
abbrev pub asked_piece : Setting → (FoundFile → UnitState → Piece) → Reader
asked_piece setting read request s =
    found_piece setting read request
    (first_found setting.files (paths_for request.header request.asking setting.options.directories)) s

-- a file that is asked for, and those that it asks for, so deep
unfoldable pub reader : Setting → ℕ → Reader
reader setting zero request s = asked_piece setting (λ found u. only_ending (IsOver (Passes IncludeDepth))) request s
reader setting (suc depth) request s = asked_piece setting (file_piece setting.value (reader setting depth)) request s

-- The unit

-- the number 1, and 201112L, as bodies (6.10.8.1)
abbrev pub number_body : List ℕ → List Tok
number_body text = record { kind = Number; text = text; at = start_of 0; space_before = false; line_start = false } ∷ []

abbrev pub number_definition : List ℕ → List ℕ → Definition
number_definition name text = record { name = name; macro = macro_without_list (number_body text) }

-- the macros that are defined before the first line; three more have another value at each place
abbrev pub first_definitions : List Definition
first_definitions =
    number_definition (codes "__CHECKER__") (codes "1") ∷ number_definition (codes "__STDC__") (codes "1")
    ∷ number_definition (codes "__STDC_VERSION__") (codes "201112L") ∷ number_definition (codes "__LP64__") (codes "1") ∷ []

-- before the first line; the path that is asked for has its number already
abbrev pub first_state : Limits → List ℕ → UnitState
first_state limits path =
    record {
      definitions = first_definitions;
      budget = record { replacements = limits.replacements; tokens = limits.made_tokens; counter = 0 };
      bytes = 0;
      paths = path ∷ [];
      undefined = [];
    }

-- `<command>`, which is loaded from nowhere and counts for no limit of files
abbrev pub command_piece : Setting → UnitState → Piece
command_piece setting s =
    text_of_file setting.value (reader setting setting.limits.include_depth) 0 setting.options.command s

abbrev pub main_piece_of : Setting → List ℕ → Option (List ℕ) → UnitState → Piece
main_piece_of setting path None s = only_ending (IsOver (refused s NoSuchFile (start_of main_file) path))
main_piece_of setting path (Some bytes) s =
    sized setting.limits bytes s
    (file_piece setting.value (reader setting setting.limits.include_depth) (record { path = path; bytes = bytes }))

-- the file with the path
abbrev pub main_piece : Setting → List ℕ → UnitState → Piece
main_piece setting path s = main_piece_of setting path (setting.files path) s

-- no more tokens than this, and the limit behind them where there are more, however they end
abbrev pub capped : ℕ → Piece → Piece
capped most piece = elim (nat_lt most (length piece.tokens)) [
  | true ↦ record { tokens = take most piece.tokens; ending = IsOver (Passes UnitTokens) }
  | false ↦ piece
]

-- `<command>`, and then the file
abbrev pub unit_piece : Setting → List ℕ → Piece
unit_piece setting path =
    capped setting.limits.unit_tokens
    (and_then (command_piece setting (first_state setting.limits path)) (main_piece setting path))

-- how a unit ends
pub data UnitEnd : Type 0 where
  -- the identifiers that were left in `#if` lines, and the paths of the files from number 1 on
  Ends : (undefined : List Tok) → (paths : List (List ℕ)) → UnitEnd
  EndsEarly : Stop → UnitEnd

-- a preprocessed unit: its tokens, or those made before it broke off
pub record PreprocessedUnit : Type 0 where
  pub tokens : List Tok
  pub end : UnitEnd

abbrev pub unit_end : PieceEnd → UnitEnd
unit_end (Continues s) = Ends s.undefined s.paths
unit_end (IsOver stop) = EndsEarly stop

abbrev pub unit_in : Setting → List ℕ → PreprocessedUnit
unit_in setting path = let all = unit_piece setting path in record { tokens = all.tokens; end = unit_end all.ending }

-- the numbers that hold
abbrev pub unit_limits : Limits
unit_limits =
    record {
      file_size = 8388608;
      all_files = 67108864;
      include_depth = 200;
      replacements = 4000000;
      made_tokens = 16000000;
      unit_tokens = 2000000;
    }

-- an evaluation that is right: it tells the value of the tokens, or where they go wrong (6.10.1 p4)
abbrev pub IsEvaluation : Evaluation → Type 0
IsEvaluation value = (tokens : List Tok) → IsIfAnswer tokens (value tokens)

-- the preprocessed unit of a path in a map of files, by an evaluation
unfoldable pub preprocessed : Evaluation → Options → FileMap → List ℕ → PreprocessedUnit
preprocessed value options files path =
    unit_in (record { options = options; files = file_at files; value = value; limits = unit_limits }) path

-- the unit by an evaluation that is right
abbrev pub IsPreprocessedUnit : Options → FileMap → List ℕ → PreprocessedUnit → Type 0
IsPreprocessedUnit options files path unit = (value : Evaluation) × IsEvaluation value × (preprocessed value options files path ≡ unit)
