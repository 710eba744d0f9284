-- How files that are read within one another are seen by the definitions of `meaning_preprocessing`.
use Rattle.std.specs.Prelude.{◌≡◌, ◌<◌, ◌≤◌, ◌+◌, ◌-◌, ◌*◌, ℕ, nat_lt, List, ◌++◌, ◌∷◌, [], length, drop, Some, IfSome, Result, Ok, Err, ⊤, if◌then◌else◌}
use Rattle.vocabulary.specs.declared.limit.LimitKind.TheVariants.{IncludeDepth}
use Rattle.meaning_outside.specs.Files.{FileMap, file_at}
use Rattle.meaning_outside.specs.Loads.{Loaded, AgreesWith, EachPathIsLoadedOnce}
use Rattle.meaning_preprocessing.specs.Groups as groups
use Rattle.meaning_preprocessing.specs.Groups.{Evaluation, Turn, Turns, Includes, Halts}
use Rattle.meaning_preprocessing.specs.Search as search
use Rattle.meaning_preprocessing.specs.Search.{FoundFile}
use Rattle.meaning_preprocessing.specs.State.{UnitState, Passes, IsOver, Piece, only_ending, and_then}
use Rattle.meaning_preprocessing.specs.Unit as unit
use Rattle.meaning_preprocessing.specs.Unit.{Setting, Reader, file_piece, over_parts, reader, sized, unit_limits}
use Rattle.c_tokens.specs.declared.token.Token.{Token}
use Rattle.c_directives.specs.Groups.{groups_seen}
use Rattle.c_directives.specs.Lines.{parts_of}
use Rattle.c_directives.specs.declared.groups.Group.{Group}
use Rattle.c_preproc.specs.Kept.{bytes_kept, tokens_kept}
use Rattle.c_preproc.specs.Loads.{IsPlace, KeepsLoads}
use Rattle.c_preproc.specs.Requests.{IsKnownRequest, request_seen}
use Rattle.c_preproc.specs.States.{Holds, stop_of}
use Rattle.c_preproc.specs.Units.{setting_of}
use Rattle.c_preproc.specs.declared.file.OpenFile.{OpenFile}
use Rattle.c_preproc.specs.declared.kept.Kept.{Kept}
use Rattle.c_preproc.specs.declared.kept.KeptFile.{KeptFile}
use Rattle.c_preproc.specs.declared.pre_fault.PreFault.{PreFault}
use Rattle.c_preproc.specs.declared.state.State.{State}
use Rattle.c_preproc.specs.declared.tasks.Turned.{Turned}
use Rattle.c_preproc.specs.declared.tasks.Turned.TheVariants as turned

-- Directives

-- a directive does what the result tells, in a file with these groups before it and those behind it
abbrev pub IsTurnDone : List (List ℕ) → List ℕ → State → List groups.Group → List Group → Result Turned PreFault → Turn → Type 0
IsTurnDone names path state before groups (Ok turned.Done) turn = (s : UnitState) × Holds names path state s × (turn ≡ Turns (groups_seen groups) s)
IsTurnDone names path state before groups (Ok (turned.Include request)) turn =
    (s : UnitState) × Holds names path state s × (turn ≡ Includes (request_seen names request) s) × (groups_seen groups ≡ before)
IsTurnDone names path state before groups (Err fault) turn = IfSome (stop_of names fault) (λ stop. turn ≡ Halts stop)

abbrev pub IsKnownTurned : List (List ℕ) → Turned → Type 0
IsKnownTurned names turned.Done = ⊤
IsKnownTurned names (turned.Include request) = IsKnownRequest names request

-- Open files

-- what is left of a file
abbrev pub left_of : List KeptFile → OpenFile → List Token
left_of files file = drop (length (tokens_kept files file.place) - file.left) (tokens_kept files file.place)

abbrev pub open_piece : Evaluation → Reader → List (List ℕ) → List KeptFile → OpenFile → UnitState → Piece
open_piece value include names files file s = over_parts value include (parts_of names (left_of files file)) (groups_seen file.groups.items) s

-- the same file where less may be left of it, which comes to the same
pub record IsWorthAsMuch (names : List (List ℕ)) (files : List KeptFile) (before now : OpenFile) : Type 0 where
  pub place : now.place ≡ before.place
  pub fewer : length (left_of files now) ≤ length (left_of files before)
  pub same : (value : Evaluation) (include : Reader) (s : UnitState) → open_piece value include names files now s ≡ open_piece value include names files before s

-- What comes of files that wait, the outermost first, which has so many files within it at most, and of what is read before them.
abbrev pub waiting_piece : Setting → List (List ℕ) → List KeptFile → ℕ → List OpenFile → (UnitState → Piece) → UnitState → Piece
waiting_piece setting names files depth [] next s = next s
waiting_piece setting names files depth (f ∷ fs) next s =
    waiting_piece setting names files (depth - 1) fs (λ u. and_then (open_piece setting.value (reader setting depth) names files f u) next) s

-- how much is left to do: the tokens that are left, twice, and the files
abbrev pub left_in : List KeptFile → List OpenFile → ℕ
left_in files [] = 0
left_in files (f ∷ fs) = length (left_of files f) + length (left_of files f) + 1 + left_in files fs

-- and the bytes that may still be loaded
abbrev pub work_left : State → List KeptFile → List OpenFile → ℕ
work_left state files on_way = (67108864 - state.bytes) + (67108864 - state.bytes) + left_in files on_way

-- Files that are opened

-- what a file is read as so deep within others: it may be too deep
abbrev pub read_at : Evaluation → Reader → (depth : ℕ) → FoundFile → UnitState → Piece
read_at value include depth found s = if nat_lt 200 depth then only_ending (IsOver (Passes IncludeDepth)) else file_piece value include found s

abbrev pub opened_piece : Evaluation → Reader → (depth : ℕ) → FoundFile → UnitState → Piece
opened_piece value include depth found s = sized unit_limits found.bytes s (read_at value include depth found)

-- The result tells what comes of the file with this path: it is kept in a place, and read from the state on.
abbrev pub IsOpened : List (List ℕ) → List ℕ → State → List Loaded → Kept → List ℕ → (depth : ℕ) → UnitState → Result ℕ PreFault → Type 0
IsOpened names main state given kept path depth s (Ok place) =
    (t : UnitState) × Holds names main state t × KeepsLoads names t.paths given kept × IsPlace kept.files.items place
    × ((files : FileMap) → AgreesWith files given → (bytes : List ℕ) × (file_at files path ≡ Some bytes)
    × ((value : Evaluation) (include : Reader) → opened_piece value include depth (record { path = path; bytes = bytes }) s ≡ over_parts value include (parts_of names (tokens_kept kept.files.items place)) [] t))
IsOpened names main state given kept path depth s (Err fault) =
    EachPathIsLoadedOnce given
    × ((files : FileMap) → AgreesWith files given → (bytes : List ℕ) × (file_at files path ≡ Some bytes)
    × ((value : Evaluation) (include : Reader) → IfSome (stop_of names fault) (λ stop. opened_piece value include depth (record { path = path; bytes = bytes }) s ≡ only_ending (IsOver stop))))

-- The result tells what comes of the file that is asked for, so deep within others.
abbrev pub IsIncluded : List (List ℕ) → List ℕ → State → List Loaded → Kept → List (List ℕ) → search.HeaderRequest → (depth : ℕ) → UnitState → Result ℕ PreFault → Type 0
IsIncluded names main state given kept directories request depth s (Ok place) =
    (t : UnitState) × Holds names main state t × KeepsLoads names t.paths given kept × IsPlace kept.files.items place
    × ((value : Evaluation) (files : FileMap) (command : List ℕ) (deeper : ℕ) → AgreesWith files given → depth + deeper ≡ 201 →
    reader (setting_of (record { directories = directories; command = command }) files value) deeper request s
    ≡ over_parts value (reader (setting_of (record { directories = directories; command = command }) files value) (deeper - 1)) (parts_of names (tokens_kept kept.files.items place)) [] t)
IsIncluded names main state given kept directories request depth s (Err fault) =
    EachPathIsLoadedOnce given
    × ((value : Evaluation) (files : FileMap) (command : List ℕ) (deeper : ℕ) → AgreesWith files given → depth + deeper ≡ 201 →
    IfSome (stop_of names fault) (λ stop. reader (setting_of (record { directories = directories; command = command }) files value) deeper request s ≡ only_ending (IsOver stop)))

-- the files that were kept stay in their places
abbrev pub FilesStay : List KeptFile → List KeptFile → Type 0
FilesStay before now = (more : List KeptFile) × (now ≡ before ++ more)

-- what was opened is counted
abbrev pub IsCounted : State → State → Kept → ℕ → Type 0
IsCounted before now kept place = (now.bytes ≡ before.bytes + bytes_kept kept.files.items place) × (now.bytes ≤ 67108864)
