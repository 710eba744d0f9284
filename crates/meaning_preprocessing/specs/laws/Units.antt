-- What holds of each preprocessed unit.
use Rattle.std.specs.Prelude.{◌≡◌, ℕ, ◌≤◌, Bool, false, List, [], ◌∷◌, length, map, Some}
use Rattle.std.specs.List.{list_any}
use Rattle.meaning_outside.specs.Files.{FileMap, file_at}
use Rattle.meaning_text.specs.Places.{main_file}
use Rattle.meaning_text.specs.Tokens.{Tok, LexesFile, is_hash}
use Rattle.meaning_macros.specs.Macros.{MacroTable}
use Rattle.meaning_macros.specs.Hiding.{hides_nothing}
use Rattle.meaning_macros.specs.laws.Expansion.{NameNothing}
use Rattle.meaning_conditions.specs.plain.Reading.{answer_of}
use Rattle.meaning_preprocessing.specs.State.{paths_with, number_from, path_of}
use Rattle.meaning_preprocessing.specs.Groups.{Evaluation}
use Rattle.meaning_preprocessing.specs.Unit.{Options, PreprocessedUnit, Ends, preprocessed, unit_limits, first_definitions, IsPreprocessedUnit}

-- there is a unit, with the plain program that computes what an `#if` comes to
abbrev pub UnitsExist : Type 0
UnitsExist = (options : Options) (files : FileMap) (path : List ℕ) → IsPreprocessedUnit options files path (preprocessed answer_of options files path)

-- and no other
abbrev pub UnitsAreUnique : Type 0
UnitsAreUnique =
    (options : Options) (files : FileMap) (path : List ℕ) (unit other : PreprocessedUnit)
    → IsPreprocessedUnit options files path unit → IsPreprocessedUnit options files path other → unit ≡ other

-- no unit has more tokens than the limit, however it ends
abbrev pub UnitsAreWithinTheLimit : Type 0
UnitsAreWithinTheLimit =
    (value : Evaluation) (options : Options) (files : FileMap) (path : List ℕ)
    → length (preprocessed value options files path).tokens ≤ unit_limits.unit_tokens

-- the token is `#`
abbrev pub is_hash_token : Tok → Bool
is_hash_token t = is_hash t.kind

-- the macros that are defined before the first line
abbrev pub first_table : MacroTable
first_table = record { definitions = first_definitions; files = [] }

-- A file without `#` whose names are no names of macros: nothing stands in `<command>`, and no limit is passed.
pub record IsPlainFile (options : Options) (files : FileMap) (path bytes : List ℕ) (tokens : List Tok) : Type 0 where
  pub no_command : options.command ≡ []
  pub found : file_at files path ≡ Some bytes
  pub small : length bytes ≤ unit_limits.file_size
  pub lexes : LexesFile main_file bytes tokens
  pub few : length tokens ≤ unit_limits.unit_tokens
  pub no_hash : list_any is_hash_token tokens ≡ false
  pub no_names : NameNothing first_table (map hides_nothing tokens)

-- its unit is its tokens
abbrev pub PlainFilesStay : Type 0
PlainFilesStay =
    (value : Evaluation) (options : Options) (files : FileMap) (path bytes : List ℕ) (tokens : List Tok)
    → IsPlainFile options files path bytes tokens
    → preprocessed value options files path ≡ record { tokens = tokens; end = Ends [] (path ∷ []) }

-- the number that a path gets, or has, is its number in the paths with it
abbrev pub NumbersTellPaths : Type 0
NumbersTellPaths = (paths : List (List ℕ)) (path : List ℕ) → path_of (paths_with path paths) (number_from 1 paths path) ≡ path

-- and each other number goes on telling its path
abbrev pub NumbersStay : Type 0
NumbersStay =
    (paths : List (List ℕ)) (path : List ℕ) (number : ℕ) → number ≤ length paths → path_of (paths_with path paths) number ≡ path_of paths number
