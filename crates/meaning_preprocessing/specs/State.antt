-- What stays from one line of a unit to the next, and how a piece of a unit ends.
use Rattle.std.specs.Prelude.{ℕ, zero, suc, ◌+◌, List, [], ◌∷◌, ◌++◌, map, slice_get, unwrap_or, codes, if◌then◌else◌}
use Rattle.std.specs.Str.{bytes_eq}
use Rattle.vocabulary.specs.declared.error_kind.ErrorKind.{ErrorKind}
use Rattle.vocabulary.specs.declared.error_kind.ErrorKind.TheVariants.{WrongNumberOfMacroArguments, UnterminatedMacroCall, BadPaste}
use Rattle.vocabulary.specs.declared.limit.LimitKind.{LimitKind}
use Rattle.vocabulary.specs.declared.limit.LimitKind.TheVariants.{MacroReplacements, MacroTokens}
use Rattle.meaning_text.specs.Bytes.{double_quote}
use Rattle.meaning_text.specs.Places.{At}
use Rattle.meaning_text.specs.Tokens.{Tok}
use Rattle.meaning_macros.specs.Macros.{Definition, FileSpelling, MacroTable}
use Rattle.meaning_macros.specs.Hiding.{Hiding, hides_nothing}
use Rattle.meaning_macros.specs.Stringizing.{with_backslashes}
use Rattle.meaning_macros.specs.Expansion as macros
use Rattle.meaning_macros.specs.Expansion.{Budget, CallFault, Counted, End, expansion}

-- What stays. The groups that are open are each file's own.
pub record UnitState : Type 0 where
  pub definitions : List Definition
  -- of replacements and their tokens, and the count of `__COUNTER__`
  pub budget : Budget
  -- how many bytes were loaded
  pub bytes : ℕ
  -- the paths of the files with the numbers 1, 2, and so on; the file `<command>` has the number 0
  pub paths : List (List ℕ)
  -- the identifiers that were left in the lines of `#if` and `#elif`, in order
  pub undefined : List Tok

-- Files by their numbers

-- the path of the file with this number
abbrev pub path_of : List (List ℕ) → ℕ → List ℕ
path_of paths zero = codes "<command>"
path_of paths (suc k) = unwrap_or (slice_get paths k) []

-- a path has one number: these, where a path without one gets the next
abbrev pub paths_with : List ℕ → List (List ℕ) → List (List ℕ)
paths_with path [] = path ∷ []
paths_with path (known ∷ paths) = if bytes_eq known path then known ∷ paths else known ∷ paths_with path paths

-- the number of a path, where the first of these has that number
abbrev pub number_from : ℕ → List (List ℕ) → List ℕ → ℕ
number_from number [] path = number
number_from number (known ∷ paths) path = if bytes_eq known path then number else number_from (number + 1) paths path

-- `__FILE__` is a string literal of the path: a backslash stands before each `"` and each backslash
abbrev pub spelled_path : List ℕ → List ℕ
spelled_path path = double_quote ∷ (with_backslashes path ++ double_quote ∷ [])

abbrev pub spelled_paths : ℕ → List (List ℕ) → List FileSpelling
spelled_paths number [] = []
spelled_paths number (path ∷ paths) = record { file = number; spelled = spelled_path path } ∷ spelled_paths (number + 1) paths

-- the macros that a line meets
abbrev pub table_in : UnitState → MacroTable
table_in s = record { definitions = s.definitions; files = spelled_paths 0 (path_of s.paths 0 ∷ s.paths) }

-- Endings

-- an error: what it is, where it stands, the path of that place's file, and what its text names, if it names something
pub record UnitRefusal : Type 0 where
  pub kind : ErrorKind
  pub place : At
  pub path : List ℕ
  pub word : List ℕ

-- why a unit ends
pub data Stop : Type 0 where
  Refuses : UnitRefusal → Stop
  Passes : LimitKind → Stop

-- how a piece of a unit ends: the next goes on in a state, or the unit ends
pub data PieceEnd : Type 0 where
  Continues : UnitState → PieceEnd
  IsOver : Stop → PieceEnd

-- the tokens of a piece, and how it ends behind them
pub record Piece : Type 0 where
  pub tokens : List Tok
  pub ending : PieceEnd

-- without a token
abbrev pub only_ending : PieceEnd → Piece
only_ending ending = record { tokens = []; ending = ending }

-- with tokens before
abbrev pub tokens_before : List Tok → Piece → Piece
tokens_before tokens piece = record piece { tokens = tokens ++ piece.tokens }

abbrev pub behind_ending : List Tok → PieceEnd → (UnitState → Piece) → Piece
behind_ending tokens (Continues s) next = tokens_before tokens (next s)
behind_ending tokens (IsOver stop) next = record { tokens = tokens; ending = IsOver stop }

-- a piece, and what follows it
abbrev pub and_then : Piece → (UnitState → Piece) → Piece
and_then piece next = behind_ending piece.tokens piece.ending next

-- an error at this place, with a word
abbrev pub refused : UnitState → ErrorKind → At → List ℕ → Stop
refused s kind place word = Refuses (record { kind = kind; place = place; path = path_of s.paths place.file; word = word })

-- Expansions

abbrev pub kind_of_fault : CallFault → ErrorKind
kind_of_fault macros.WrongArguments = WrongNumberOfMacroArguments
kind_of_fault macros.OpenCall = UnterminatedMacroCall
kind_of_fault macros.BadPaste = BadPaste

abbrev pub limit_of_count : Counted → LimitKind
limit_of_count macros.Replacements = MacroReplacements
limit_of_count macros.MadeTokens = MacroTokens

abbrev pub ending_of : UnitState → End → PieceEnd
ending_of s (macros.Finished budget) = Continues (record s { budget = budget })
ending_of s (macros.Failed fault place) = IsOver (refused s (kind_of_fault fault) place [])
ending_of s (macros.Passed counted) = IsOver (Passes (limit_of_count counted))

abbrev pub token_alone : Hiding → Tok
token_alone t = t.token

-- the tokens, with their macros replaced
abbrev pub expanded_in : UnitState → List Tok → Piece
expanded_in s tokens =
    let all = expansion (table_in s) s.budget (map hides_nothing tokens)
    in record { tokens = map token_alone all.tokens; ending = ending_of s all.end }
