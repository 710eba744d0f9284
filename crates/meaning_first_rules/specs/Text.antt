-- The text of warnings.
use Rattle.std.specs.Prelude.{ℕ, List, [], ◌++◌, codes, slice_get, unwrap_or, option_map, if◌then◌else◌}
use Rattle.std.specs.List.{flat_map}
use Rattle.std.specs.Fmt.{decimal}
use Rattle.meaning_text.specs.Places.{At, main_file, start_of}
use Rattle.meaning_text.specs.Tokens.{Tok}
use Rattle.meaning_types.specs.Types.{Flags, TypeTree, flags_of}
use Rattle.meaning_types.specs.Spelling.{spelling, space_spelling}
use Rattle.meaning_first_rules.specs.Evaluation.{Position, InAssignment}
use Rattle.meaning_first_rules.specs.Failures.{Cause, SpacesMixed, FlaggedAccess, Failure}

-- `FILE:LINE:COLUMN:`
abbrev pub place_text : List ℕ → At → List ℕ
place_text path at = path ++ codes ":" ++ decimal at.line ++ codes ":" ++ decimal at.column ++ codes ":"

-- `FILE:LINE:COLUMN: warning: TEXT` on a line
abbrev pub warning_line : List ℕ → At → List ℕ → List ℕ
warning_line path at text = place_text path at ++ codes " warning: " ++ text ++ codes "\n"

-- a line that names a type, below the line of its warning
abbrev pub type_line : List ℕ → At → List ℕ → TypeTree → List ℕ
type_line path at word type_ = place_text path at ++ codes "    " ++ word ++ codes " " ++ spelling type_ ++ codes "\n"

-- how a warning names the position of a conversion
abbrev pub position_text : Position → List ℕ
position_text InAssignment = codes "assignment"

-- what is wrong about an access to a place with these flags
abbrev pub access_text : Flags → List ℕ
access_text flags =
    if flags.noderef then codes "dereference of noderef expression"
    else codes "dereference in address space " ++ space_spelling flags.space

-- the lines of a cause at this place: its warning, and for mixed spaces both types
abbrev pub cause_text : List ℕ → At → Cause → List ℕ
cause_text path at (SpacesMixed position expected got) =
    warning_line path at (codes "incorrect type in " ++ position_text position ++ codes " (different address spaces)")
    ++ type_line path at (codes "expected") expected
    ++ type_line path at (codes "got") got
cause_text path at (FlaggedAccess place) = warning_line path at (access_text (flags_of place))

-- where the token with this index begins
abbrev pub place_of : List Tok → ℕ → At
place_of tokens index = unwrap_or (option_map (λ token. token.at) (slice_get tokens index)) (start_of main_file)

-- the lines of a failure, at the place of its token
abbrev pub failure_text : List ℕ → List Tok → Failure → List ℕ
failure_text path tokens failure = cause_text path (place_of tokens failure.token) failure.cause

-- the lines of all failures, in their order
abbrev pub warnings_text : List ℕ → List Tok → List Failure → List ℕ
warnings_text path tokens failures = flat_map (failure_text path tokens) failures

-- Of a unit of several files

-- the path of the file with this number, where the paths of all files stand by their numbers
abbrev pub path_in : List (List ℕ) → ℕ → List ℕ
path_in files file = unwrap_or (slice_get files file) []

-- the lines of a cause at this place, with the path of its file
abbrev pub placed_text : List (List ℕ) → At → Cause → List ℕ
placed_text files at cause = cause_text (path_in files at.file) at cause

-- the lines of a failure, at the place of its token
abbrev pub unit_failure_text : List (List ℕ) → List Tok → Failure → List ℕ
unit_failure_text files tokens failure = placed_text files (place_of tokens failure.token) failure.cause

-- the lines of all failures, in their order
abbrev pub unit_warnings_text : List (List ℕ) → List Tok → List Failure → List ℕ
unit_warnings_text files tokens failures = flat_map (unit_failure_text files tokens) failures
