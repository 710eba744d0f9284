-- How a worked row is written: files as texts, and what a unit becomes.
use Rattle.std.specs.Prelude.{ℕ, List, [], ◌∷◌, ◌++◌, map, Some, None, codes, if◌then◌else◌}
use Rattle.std.specs.Str.{bytes_eq}
use Rattle.vocabulary.specs.declared.error_kind.ErrorKind.{ErrorKind}
use Rattle.vocabulary.specs.declared.limit.LimitKind.{LimitKind}
use Rattle.meaning_text.specs.Bytes.{space}
use Rattle.meaning_text.specs.Tokens.{Tok}
use Rattle.meaning_conditions.specs.plain.Reading.{answer_of}
use Rattle.meaning_preprocessing.specs.State.{Refuses, Passes}
use Rattle.meaning_preprocessing.specs.Search.{Files}
use Rattle.meaning_preprocessing.specs.Unit.{Options, Limits, unit_limits, UnitEnd, Ends, EndsEarly, PreprocessedUnit, unit_in}

-- the path of the file in most rows
abbrev pub main_path : List ℕ
main_path = codes "t.c"

-- a path and a text
abbrev pub NamedText : Type 0
NamedText = List ℕ × List ℕ

-- the texts as files, by the first with a path
abbrev pub files_of : List NamedText → Files
files_of [] path = None
files_of (entry ∷ others) path = if bytes_eq entry.0 path then Some entry.1 else files_of others path

-- the unit of `t.c` with this text, among other files
abbrev pub unit_among : Limits → Options → List NamedText → List ℕ → PreprocessedUnit
unit_among limits options others text =
    unit_in (record { options = options; files = files_of ((main_path, text) ∷ others); value = answer_of; limits = limits }) main_path

-- Replies

-- what a reader of a row compares: spellings with one space between two, or a line, or a limit
pub data Shown : Type 0 where
  Yields : List ℕ → Shown
  FailsWith : ErrorKind → (path : List ℕ) → (line column : ℕ) → (word : List ℕ) → Shown
  Limited : LimitKind → Shown

abbrev pub in_one_line : List Tok → List ℕ
in_one_line [] = []
in_one_line (t ∷ []) = t.text
in_one_line (t ∷ u ∷ ts) = t.text ++ space ∷ in_one_line (u ∷ ts)

abbrev pub reply_of_end : List Tok → UnitEnd → Shown
reply_of_end tokens (Ends undefined paths) = Yields (in_one_line tokens)
reply_of_end tokens (EndsEarly (Refuses r)) = FailsWith r.kind r.path r.place.line r.place.column r.word
reply_of_end tokens (EndsEarly (Passes limit)) = Limited limit

abbrev pub reply_of_unit : PreprocessedUnit → Shown
reply_of_unit unit = reply_of_end unit.tokens unit.end

-- no directory, and nothing in `<command>`
abbrev pub plain_options : Options
plain_options = record { directories = []; command = [] }

-- of `t.c` alone
abbrev pub reply : List ℕ → Shown
reply text = reply_of_unit (unit_among unit_limits plain_options [] text)

abbrev pub replies : List (List ℕ) → List Shown
replies texts = map reply texts

-- an error in `t.c` whose text has no word
abbrev pub fails_at : ErrorKind → (line column : ℕ) → Shown
fails_at kind line column = FailsWith kind main_path line column []

-- of `t.c` among others, with these directories
abbrev pub reply_among : List (List ℕ) → List NamedText → List ℕ → Shown
reply_among directories others text =
    reply_of_unit (unit_among unit_limits (record { directories = directories; command = [] }) others text)

-- behind a text of `<command>`
abbrev pub reply_behind : List ℕ → List ℕ → Shown
reply_behind command text = reply_of_unit (unit_among unit_limits (record { directories = []; command = command }) [] text)

-- with other limits
abbrev pub reply_within : Limits → List NamedText → List ℕ → Shown
reply_within limits others text = reply_of_unit (unit_among limits plain_options others text)

-- Identifiers that are left

pub record LeftName : Type 0 where
  pub name : List ℕ
  pub line : ℕ
  pub column : ℕ

abbrev pub left_name : Tok → LeftName
left_name t = record { name = t.text; line = t.at.line; column = t.at.column }

abbrev pub left_in_end : UnitEnd → List LeftName
left_in_end (Ends undefined paths) = map left_name undefined
left_in_end (EndsEarly stop) = []

-- the paths of the files that were read
abbrev pub paths_in : UnitEnd → List (List ℕ)
paths_in (Ends undefined paths) = paths
paths_in (EndsEarly stop) = []

-- the identifiers that are left in `t.c`
abbrev pub left_in : List ℕ → List LeftName
left_in text = left_in_end (unit_among unit_limits plain_options [] text).end

abbrev pub left_at : List ℕ → (line column : ℕ) → LeftName
left_at name line column = record { name = name; line = line; column = column }
