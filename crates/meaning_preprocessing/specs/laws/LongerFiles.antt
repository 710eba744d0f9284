-- What holds of a file that has more lines behind the one at which its unit ends.
use Rattle.std.specs.Prelude.{◌≡◌, ℕ, ◌≤◌, Bool, true, false, not, ◌==◌, ◌&&◌, ◌||◌, List, [], ◌∷◌, ◌++◌, length, Some, ⊤}
use Rattle.std.specs.Str.{bytes_eq}
use Rattle.vocabulary.specs.declared.error_kind.ErrorKind.{ErrorKind}
use Rattle.vocabulary.specs.declared.error_kind.ErrorKind.TheVariants.{UnterminatedMacroCall}
use Rattle.vocabulary.specs.declared.limit.LimitKind.{LimitKind}
use Rattle.vocabulary.specs.declared.limit.LimitKind.TheVariants.{AllFiles, UnitTokens}
use Rattle.meaning_outside.specs.Files.{FileMap, file_at}
use Rattle.meaning_text.specs.Bytes.{new_line, backslash}
use Rattle.meaning_text.specs.Tokens.{Tok, LexesFile, is_hash}
use Rattle.meaning_preprocessing.specs.Lines.{Line, lines_of, FileParts, LastText, DirectiveBehind, file_parts, DirectiveName, IncludeLine, directive_of}
use Rattle.meaning_preprocessing.specs.State.{UnitState, Stop, Refuses, Passes, PieceEnd, Continues, IsOver, and_then}
use Rattle.meaning_preprocessing.specs.Groups.{Group, Evaluation}
use Rattle.meaning_preprocessing.specs.Unit.{Options, Setting, Reader, over_parts, command_piece, main_piece_of, capped, first_state, unit_limits, unit_end, EndsEarly, PreprocessedUnit, preprocessed}
use Rattle.meaning_preprocessing.specs.laws.Lines.{tells_open_group}

-- Endings

-- the error tells of a macro's call that its list of tokens doesn't close
abbrev pub tells_open_call : ErrorKind → Bool
tells_open_call UnterminatedMacroCall = true
tells_open_call kind = false

-- The error may tell of what is open at the end of the file, which more lines may close: a group, or a macro's call, if the last
-- line isn't a directive, which would end the text that has the call. By its kind alone it doesn't say whether it stands there,
-- or in a header, in an argument or before a directive: so all of the kind are excepted, which is more than has to be.
abbrev pub tells_what_is_open : (behind_directive : Bool) → ErrorKind → Bool
tells_what_is_open behind_directive kind = tells_open_group kind || (tells_open_call kind && not behind_directive)

-- The limit may be passed by a last name that stays since no `(` follows it. More lines may make it a call, which may
-- become nothing.
abbrev pub counts_the_last_name : LimitKind → Bool
counts_the_last_name UnitTokens = true
counts_the_last_name limit = false

-- more lines may change it
abbrev pub may_stop_at_the_end : (behind_directive : Bool) → Stop → Bool
may_stop_at_the_end behind_directive (Refuses error) = tells_what_is_open behind_directive error.kind
may_stop_at_the_end behind_directive (Passes limit) = counts_the_last_name limit

-- it breaks off for another reason
abbrev pub BreaksOffBefore : (behind_directive : Bool) → PieceEnd → Type 0
BreaksOffBefore behind_directive (Continues s) = ⊥
BreaksOffBefore behind_directive (IsOver stop) = may_stop_at_the_end behind_directive stop ≡ false

-- Tokens of one file

-- the first of the tokens, if there is one, is the first of its line
abbrev pub BeginsALine : List Tok → Type 0
BeginsALine [] = ⊤
BeginsALine (t ∷ ts) = t.line_start ≡ true

-- the last of the lines is a directive
abbrev pub last_is_directive : List Line → Bool
last_is_directive [] = false
last_is_directive (line ∷ []) = is_hash line.first.kind
last_is_directive (line ∷ other ∷ lines) = last_is_directive (other ∷ lines)

-- the last line of the tokens is a directive, where one is told of
abbrev pub EndAsTold : (behind_directive : Bool) → List Tok → Type 0
EndAsTold true tokens = last_is_directive (lines_of tokens) ≡ true
EndAsTold false tokens = ⊤

-- Where the tokens of a file break off, tokens on lines behind them change nothing, be there a directive between or not.
abbrev pub TokensBehindTheEnd : Type 0
TokensBehindTheEnd =
    (value : Evaluation) (include : Reader) (behind_directive : Bool) (tokens later : List Tok) (groups : List Group) (s : UnitState)
    → BreaksOffBefore behind_directive (over_parts value include (file_parts (lines_of tokens)) groups s).ending
    → EndAsTold behind_directive tokens → BeginsALine later
    → over_parts value include (file_parts (lines_of (tokens ++ later))) groups s
    ≡ over_parts value include (file_parts (lines_of tokens)) groups s

-- The bytes of FILE

-- The last byte is a new-line, and has no backslash before it, which would join the next line to this.
abbrev pub ends_its_line : List ℕ → Bool
ends_its_line [] = false
ends_its_line (b ∷ []) = b == new_line
ends_its_line (b ∷ c ∷ []) = not (b == backslash) && c == new_line
ends_its_line (b ∷ c ∷ d ∷ text) = ends_its_line (c ∷ d ∷ text)

-- no comment and no literal is open in the text, whatever the number of its file
abbrev pub HasTokens : List ℕ → Type 0
HasTokens text = (file : ℕ) → (tokens : List Tok) × LexesFile file text tokens

-- the last line of the text is a directive, where one is told of
abbrev pub EndsAsTold : (behind_directive : Bool) → List ℕ → Type 0
EndsAsTold behind_directive text = (file : ℕ) (tokens : List Tok) → LexesFile file text tokens → EndAsTold behind_directive tokens

-- the maps have the same files but for this path
abbrev pub DifferAtMostAt : (path : List ℕ) → (files others : FileMap) → Type 0
DifferAtMostAt path files others = (other : List ℕ) → bytes_eq other path ≡ false → file_at others other ≡ file_at files other

-- The second map differs in FILE alone, which has the lines that it has in the first, and then more.
pub record HasMoreLines (files others : FileMap) (path text more : List ℕ) : Type 0 where
  pub found : file_at files path ≡ Some text
  pub found_longer : file_at others path ≡ Some (text ++ more)
  pub elsewhere : DifferAtMostAt path files others
  pub ends_line : ends_its_line text ≡ true
  pub has_tokens : HasTokens text
  pub has_tokens_longer : HasTokens (text ++ more)
  pub small : length (text ++ more) ≤ unit_limits.file_size

-- the unit of FILE with these bytes, where each include looks into this map, for FILE too
abbrev pub unit_among : Evaluation → Options → (others : FileMap) → (path bytes : List ℕ) → PreprocessedUnit
unit_among value options others path bytes =
    let setting : Setting = record { options = options; files = file_at others; value = value; limits = unit_limits } in
    let all = capped unit_limits.unit_tokens (and_then (command_piece setting (first_state unit_limits path)) (main_piece_of setting path (Some bytes)))
    in record { tokens = all.tokens; end = unit_end all.ending }

-- No include reads FILE again: whatever one would find in its place, or if it found nothing, the unit would be the same.
-- Otherwise the lines behind the end show where FILE is read within FILE, before the end of its unit.
abbrev pub IsReadOnce : Evaluation → Options → (files : FileMap) → (path bytes : List ℕ) → Type 0
IsReadOnce value options files path bytes =
    (others : FileMap) → DifferAtMostAt path files others → unit_among value options others path bytes ≡ preprocessed value options files path

-- Where the unit of FILE ends early for a reason that stands before the end of FILE, lines behind that end change nothing,
-- neither how it ends nor the tokens made before: unless, with their bytes, all files together become too large, which a
-- unit tells at the first file that has no room.
abbrev pub LinesBehindTheUnitsEnd : Type 0
LinesBehindTheUnitsEnd =
    (value : Evaluation) (options : Options) (files others : FileMap) (path text more : List ℕ) (behind_directive : Bool) (stop : Stop)
    → HasMoreLines files others path text more → IsReadOnce value options files path text → EndsAsTold behind_directive text
    → (preprocessed value options files path).end ≡ EndsEarly stop → may_stop_at_the_end behind_directive stop ≡ false
    → ((preprocessed value options others path).end ≡ EndsEarly (Passes AllFiles) → ⊥)
    → preprocessed value options others path ≡ preprocessed value options files path

-- Files that include nothing

-- the directive is an `#include`
abbrev pub is_include : DirectiveName → Bool
is_include IncludeLine = true
is_include name = false

-- one of the lines is an `#include`
abbrev pub ask_for_files : FileParts → Bool
ask_for_files (LastText text) = false
ask_for_files (DirectiveBehind text hash rest parts) = is_include (directive_of rest) || ask_for_files parts

-- no line of the text is an `#include`
abbrev pub AsksForNoFile : List ℕ → Type 0
AsksForNoFile text = (file : ℕ) (tokens : List Tok) → LexesFile file text tokens → ask_for_files (file_parts (lines_of tokens)) ≡ false

-- so FILE is read once, where `<command>` has none either
abbrev pub FilesWithoutIncludesAreReadOnce : Type 0
FilesWithoutIncludesAreReadOnce =
    (value : Evaluation) (options : Options) (files : FileMap) (path text : List ℕ)
    → file_at files path ≡ Some text → AsksForNoFile options.command → AsksForNoFile text → IsReadOnce value options files path text
