-- What is kept of loads, and what it tells of each map of files that agrees with them.
use Rattle.std.specs.Prelude.{◌≡◌, ◌<◌, ◌≤◌, ℕ, List, ◌++◌, ◌∷◌, [], length, drop, map, All, Option, Some, None, IfSome, IsSomeAnd, Result, Ok, Err, ⊤}
use Rattle.vocabulary.specs.declared.limit.LimitKind.TheVariants.{FileSize}
use Rattle.meaning_outside.specs.Faults.{Told}
use Rattle.meaning_outside.specs.Files.{FileMap, file_at}
use Rattle.meaning_outside.specs.Loads.{Loaded, AgreesWith, EachPathIsLoadedOnce, LoadsStay, loads_since}
use Rattle.meaning_outside.specs.Loads as loads
use Rattle.meaning_text.specs.Lexing.{Tokens, lexed_file}
use Rattle.meaning_preprocessing.specs.Search.{FoundFile, first_found}
use Rattle.meaning_preprocessing.specs.State.{Stop, Passes, number_from, paths_with}
use Rattle.meaning_preprocessing.specs.Unit.{unit_limits}
use Rattle.sparse_model.specs.declared.ids.NameId.{NameId}
use Rattle.c_tokens.specs.Seen.{IsKnown, text_of, toks_of}
use Rattle.c_directives.specs.Conditions.{AreKnown}
use Rattle.c_directives.specs.PartEnds.{ArePartEnds}
use Rattle.c_preproc.specs.Kept.{bytes_kept, ends_kept, found_at, tokens_kept}
use Rattle.c_preproc.specs.States.{stop_of}
use Rattle.c_preproc.specs.declared.kept.AtPath.{AtPath}
use Rattle.c_preproc.specs.declared.kept.AtPath.TheVariants.{Nothing, File}
use Rattle.c_preproc.specs.declared.kept.Kept.{Kept}
use Rattle.c_preproc.specs.declared.kept.KeptFile.{KeptFile}
use Rattle.c_preproc.specs.declared.loads.Source.{Source}
use Rattle.c_preproc.specs.declared.loads.Source.TheVariants as source
use Rattle.c_preproc.specs.declared.pre_fault.PreFault.{PreFault}
use Rattle.c_preproc.specs.declared.state.State.{State}

-- Calls that load

-- What a call did to files: what was loaded stays, a told map agrees with it and stays, and a fault is told exactly by the count.
pub record HasLoaded (before now : List Loaded) (held holds : Option FileMap) (faults_before faults_now : ℕ) (failed : Type 0) : Type 0 where
  pub stay : LoadsStay before now
  pub told : IfSome held (λ files. AgreesWith files (loads_since before now))
  pub cause : Told faults_before faults_now failed
  pub same : holds ≡ held

-- What is kept

-- what a load of the path gave is kept
abbrev pub IsKeptPath : List (List ℕ) → Kept → List ℕ → Type 0
IsKeptPath names kept path = (id : NameId) × IsKnown names id × (text_of names id ≡ path) × (found : AtPath) × (found_at kept id ≡ Some found)

-- the file that is kept in this place is that of the path, where it has these bytes
pub record IsFileOf (names : List (List ℕ)) (paths : List (List ℕ)) (files : List KeptFile) (path bytes : List ℕ) (place : ℕ) : Type 0 where
  pub small : length bytes ≤ unit_limits.file_size
  pub size : bytes_kept files place ≡ length bytes
  pub numbered : paths_with path paths ≡ paths
  pub tokens : lexed_file (number_from 1 paths path) bytes ≡ Tokens (toks_of names (tokens_kept files place))

-- what is kept of a path tells what a map has there
abbrev pub Tells : List (List ℕ) → List (List ℕ) → List KeptFile → List ℕ → Option (List ℕ) → AtPath → Type 0
Tells names paths files path there Nothing = there ≡ None
Tells names paths files path there (File place) = (bytes : List ℕ) × (there ≡ Some bytes) × IsFileOf names paths files path bytes place

-- the file in this place is one of those that are kept
abbrev pub IsPlace : List KeptFile → ℕ → Type 0
IsPlace files place = place < length files

abbrev pub IsFoundPlace : List KeptFile → AtPath → Type 0
IsFoundPlace files Nothing = ⊤
IsFoundPlace files (File place) = IsPlace files place

-- All that was loaded is kept, and no path was loaded twice. Each path with a number above 1 was loaded.
pub record KeepsLoads (names : List (List ℕ)) (paths : List (List ℕ)) (given : List Loaded) (kept : Kept) : Type 0 where
  pub once : EachPathIsLoadedOnce given
  pub loaded : All (λ (load : Loaded). IsKeptPath names kept load.path) given
  pub numbered : All (IsKeptPath names kept) (drop 1 paths)
  pub known : (id : NameId) (found : AtPath) → found_at kept id ≡ Some found → IsKnown names id × IsFoundPlace kept.files.items found
  pub tells : (id : NameId) (found : AtPath) → found_at kept id ≡ Some found → (files : FileMap) → AgreesWith files given → Tells names paths kept.files.items (text_of names id) (file_at files (text_of names id)) found
  pub tokens : (place : ℕ) → AreKnown names (tokens_kept kept.files.items place)
  pub small : (place : ℕ) → length (tokens_kept kept.files.items place) ≤ bytes_kept kept.files.items place
  pub ends : (place : ℕ) → ArePartEnds names (tokens_kept kept.files.items place) (ends_kept kept.files.items place)

-- nothing is kept yet
pub record IsFresh (kept : Kept) : Type 0 where
  pub files : kept.files.items ≡ []
  pub none : (id : NameId) → found_at kept id ≡ None

-- the paths of the files with the numbers 1, 2, and so on
abbrev pub paths_seen : List (List ℕ) → State → List (List ℕ)
paths_seen names state = drop 1 (map (text_of names) state.paths.items)

-- What is found at a path

-- it was loaded just now, and isn't kept yet
pub record IsNew (names : List (List ℕ)) (paths : List (List ℕ)) (given : List Loaded) (kept : Kept) (path : List ℕ) (id : NameId) (text : List ℕ) : Type 0 where
  pub earlier : List Loaded
  pub is : given ≡ earlier ++ record { path = path; most = 8388608; given = loads.Whole text } ∷ []
  pub keeps : KeepsLoads names paths earlier kept
  pub known : IsKnown names id
  pub spelled : text_of names id ≡ path
  pub new : found_at kept id ≡ None
  pub small : length text ≤ 8388608

abbrev pub IsSource : List (List ℕ) → List (List ℕ) → List Loaded → Kept → List ℕ → Source → Type 0
IsSource names paths given kept path (source.Kept place) =
    KeepsLoads names paths given kept × IsPlace kept.files.items place
    × ((files : FileMap) → AgreesWith files given → (bytes : List ℕ) × (file_at files path ≡ Some bytes) × IsFileOf names paths kept.files.items path bytes place)
IsSource names paths given kept path (source.Loaded id text) = IsNew names paths given kept path id text.items

-- its text is small enough to have tokens
abbrev pub IsSmallSource : Source → Type 0
IsSmallSource (source.Kept place) = ⊤
IsSmallSource (source.Loaded id text) = length text.items ≤ 8388608

-- the file is larger than the limit
abbrev pub IsTooLong : Option (List ℕ) → Stop → Type 0
IsTooLong there stop = (stop ≡ Passes FileSize) × IsSomeAnd there (λ bytes. 8388608 < length bytes)

abbrev pub bytes_found : Option FoundFile → Option (List ℕ)
bytes_found None = None
bytes_found (Some found) = Some found.bytes

-- The result tells what each map that agrees with the loads has at the path.
abbrev pub IsLooked : List (List ℕ) → List (List ℕ) → List Loaded → Kept → List ℕ → Result (Option Source) PreFault → Type 0
IsLooked names paths given kept path (Ok None) = KeepsLoads names paths given kept × ((files : FileMap) → AgreesWith files given → file_at files path ≡ None)
IsLooked names paths given kept path (Ok (Some found)) = IsSource names paths given kept path found
IsLooked names paths given kept path (Err fault) =
    EachPathIsLoadedOnce given × ((files : FileMap) → AgreesWith files given → IfSome (stop_of names fault) (IsTooLong (file_at files path)))

-- The result tells which of these paths is the first at which each such map has a file.
abbrev pub IsSearched : List (List ℕ) → List (List ℕ) → List Loaded → Kept → List (List ℕ) → Result (Option Source) PreFault → Type 0
IsSearched names paths given kept wanted (Ok None) = KeepsLoads names paths given kept × ((files : FileMap) → AgreesWith files given → first_found (file_at files) wanted ≡ None)
IsSearched names paths given kept wanted (Ok (Some found)) =
    (path : List ℕ) × IsSource names paths given kept path found
    × ((files : FileMap) → AgreesWith files given → (bytes : List ℕ) → file_at files path ≡ Some bytes → first_found (file_at files) wanted ≡ Some (record { path = path; bytes = bytes }))
IsSearched names paths given kept wanted (Err fault) =
    EachPathIsLoadedOnce given × ((files : FileMap) → AgreesWith files given → IfSome (stop_of names fault) (IsTooLong (bytes_found (first_found (file_at files) wanted))))
