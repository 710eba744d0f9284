-- What the texts of a unit stand on, and how a line begins.
use Rattle.std.specs.Prelude.{ℕ, List, [], ◌++◌, codes, Option, Some, None, slice_get, unwrap_or}
use Rattle.std.specs.Fmt.{decimal}
use Rattle.meaning_text.specs.Places.{At, main_file, start_of}
use Rattle.meaning_text.specs.Tokens.{Tok}
use Rattle.meaning_types.specs.Types.{TypeTree}
use Rattle.meaning_types.specs.Spelling.{spelling_with}
use Rattle.meaning_operands.specs.Failures.{Failure}

-- A unit whose failures are told: the paths of its files by their numbers, its tokens, the failures that preprocessing
-- found with a token for each, and the names of aggregates and of restricted identities, where they have some.
pub record ShownUnit : Type 0 where
  pub files : List (List ℕ)
  pub tokens : List Tok
  pub undefined : List Failure
  pub undefined_tokens : List Tok
  pub tags : ℕ → Option (List ℕ)
  pub identities : ℕ → Option (List ℕ)

-- a type, with these names
abbrev pub type_spelling : ShownUnit → TypeTree → List ℕ
type_spelling shown type_ = spelling_with shown.tags shown.identities type_

-- the path of the file with this number
abbrev pub path_of : List (List ℕ) → ℕ → List ℕ
path_of files file = unwrap_or (slice_get files file) []

-- where a token begins, and how it is spelled
abbrev pub begins_at : Option Tok → At
begins_at None = start_of main_file
begins_at (Some token) = token.at

abbrev pub token_text : Option Tok → List ℕ
token_text None = []
token_text (Some token) = token.text

-- `FILE:LINE:COLUMN: `
abbrev pub line_front : List ℕ → At → List ℕ
line_front path at = path ++ codes ":" ++ decimal at.line ++ codes ":" ++ decimal at.column ++ codes ": "
