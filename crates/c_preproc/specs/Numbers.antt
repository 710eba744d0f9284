-- How files get their numbers, and pass the limits of files.
use Rattle.std.specs.Prelude.{◌≡◌, ◌<◌, ◌≤◌, ◌+◌, ◌⊎◌, ℕ, Bool, false, nat_eq, List, ◌++◌, ◌∷◌, [], length, slice_get, Option, Some, None, IfSome, Result, Ok, Err}
use Rattle.vocabulary.specs.declared.limit.LimitKind.TheVariants.{AllFiles, IncludeDepth}
use Rattle.meaning_outside.specs.Loads.{Loaded}
use Rattle.meaning_preprocessing.specs.Groups.{Evaluation}
use Rattle.meaning_preprocessing.specs.State.{UnitState, IsOver, only_ending, number_from, paths_with}
use Rattle.meaning_preprocessing.specs.Unit.{Reader, file_piece, over_parts}
use Rattle.sparse_model.specs.declared.ids.NameId.{NameId}
use Rattle.c_tokens.specs.Seen.{text_of}
use Rattle.c_directives.specs.Lines.{parts_of}
use Rattle.c_preproc.specs.Kept.{tokens_kept}
use Rattle.c_preproc.specs.Loads.{IsNew, IsPlace, IsSource, KeepsLoads}
use Rattle.c_preproc.specs.States.{Holds, stop_of}
use Rattle.c_preproc.specs.declared.kept.Kept.{Kept}
use Rattle.c_preproc.specs.declared.loads.Source.{Source}
use Rattle.c_preproc.specs.declared.pre_fault.PreFault.{PreFault}
use Rattle.c_preproc.specs.declared.pre_fault.PreFault.TheVariants.{Limit}
use Rattle.c_preproc.specs.declared.state.State.{State}

-- which limit a file of so many bytes passes, so deep within others
abbrev pub IsPassed : (before count depth : ℕ) → PreFault → Type 0
IsPassed before count depth fault = ((fault ≡ Limit AllFiles) × (67108864 < before + count))
    ⊎ ((fault ≡ Limit IncludeDepth) × (before + count ≤ 67108864) × (200 < depth))

abbrev pub is_id : Option NameId → NameId → Bool
is_id None path = false
is_id (Some id) path = nat_eq id.0 path.0

-- the path is that of the file that the unit is of
abbrev pub is_main : State → NameId → Bool
is_main state path = is_id (slice_get state.paths.items 1) path

-- a path that wasn't read yet is the first one, or none of these
abbrev pub IsNewPath : List (List ℕ) → List ℕ → Type 0
IsNewPath paths path = (paths_with path paths ≡ paths ++ path ∷ []) × (number_from 1 paths path ≡ length paths + 1)

abbrev pub IsNumberable : List (List ℕ) → List ℕ → List (List ℕ) → NameId → Type 0
IsNumberable names main paths id = (text_of names id ≡ main → ⊥) → IsNewPath paths (text_of names id)

-- the path has its number
abbrev pub IsNumbered : List (List ℕ) → List ℕ → State → List ℕ → UnitState → ℕ → Type 0
IsNumbered names main state path s number = (number ≡ number_from 1 s.paths path) × Holds names main state (record s { paths = paths_with path s.paths })

-- The result tells what comes of a text that was loaded: its tokens are kept in a place, or it has none.
abbrev pub IsKeptNow : List (List ℕ) → List ℕ → State → List Loaded → Kept → List ℕ → List ℕ → UnitState → Result ℕ PreFault → Type 0
IsKeptNow names main state given kept path bytes s (Ok place) =
    Holds names main state (record s { paths = paths_with path s.paths }) × KeepsLoads names (paths_with path s.paths) given kept × IsPlace kept.files.items place
    × ((value : Evaluation) (include : Reader) → file_piece value include (record { path = path; bytes = bytes }) s
    ≡ over_parts value include (parts_of names (tokens_kept kept.files.items place)) [] (record s { paths = paths_with path s.paths }))
IsKeptNow names main state given kept path bytes s (Err fault) =
    (value : Evaluation) (include : Reader) → IfSome (stop_of names fault) (λ stop. file_piece value include (record { path = path; bytes = bytes }) s ≡ only_ending (IsOver stop))

-- a file that was found is read by this state
abbrev pub IsReady : List (List ℕ) → State → Kept → Source → Type 0
IsReady names state kept found =
    (main : List ℕ) × (s : UnitState) × (given : List Loaded) × (path : List ℕ) × Holds names main state s × IsSource names s.paths given kept path found

-- the same of a text that was loaded just now
abbrev pub IsReadyNew : List (List ℕ) → State → Kept → NameId → List ℕ → Type 0
IsReadyNew names state kept id text =
    (main : List ℕ) × (s : UnitState) × (given : List Loaded) × (path : List ℕ) × Holds names main state s × IsNew names s.paths given kept path id text
