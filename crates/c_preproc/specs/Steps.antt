-- What comes of files that are open within one another.
use Rattle.std.specs.Prelude.{◌≡◌, ◌<◌, ℕ, ◌++◌, List, [], ◌∷◌, length, All, Result, Ok, Err}
use Rattle.meaning_outside.specs.Files.{FileMap}
use Rattle.meaning_outside.specs.Loads.{Loaded, AgreesWith, EachPathIsLoadedOnce}
use Rattle.meaning_preprocessing.specs.Groups.{Evaluation}
use Rattle.meaning_preprocessing.specs.State.{UnitState, Piece, and_then, tokens_before}
use Rattle.meaning_preprocessing.specs.Unit as unit
use Rattle.meaning_preprocessing.specs.Unit.{IsEvaluation, over_parts, reader, unit_limits}
use Rattle.c_directives.specs.Lines.{parts_of}
use Rattle.c_preproc.specs.Kept.{tokens_kept}
use Rattle.c_preproc.specs.Loads.{IsPlace, KeepsLoads, paths_seen}
use Rattle.c_preproc.specs.Opens.{waiting_piece}
use Rattle.c_preproc.specs.States.{EndsUnit, GoesOn, Holds, put_of}
use Rattle.c_preproc.specs.Units.{setting_of}
use Rattle.c_preproc.specs.declared.file.OpenFile.{OpenFile}
use Rattle.c_preproc.specs.declared.kept.Kept.{Kept}
use Rattle.c_preproc.specs.declared.kept.KeptFile.{KeptFile}
use Rattle.c_preproc.specs.declared.pre_fault.PreFault.{PreFault}
use Rattle.c_preproc.specs.declared.state.State.{State}

-- each of the open files is one of those that are kept, and they aren't too deep
pub record ArePlaced (files : List KeptFile) (on_way : List OpenFile) : Type 0 where
  pub places : All (λ (file : OpenFile). IsPlace files file.place) on_way
  pub few : length on_way < 202

abbrev pub directories_alone : List (List ℕ) → List ℕ → unit.Options
directories_alone directories command = record { directories = directories; command = command }

-- What comes of the open files stays what it was, or the unit ends so. `goes` tells it over each map of files that agrees with the loads.
abbrev pub IsStepped : List (List ℕ) → List (List ℕ) → State → State → List Loaded → Kept → Kept → List (List ℕ) → List OpenFile → List OpenFile → Result Unit PreFault → Type 0
IsStepped names later old new given kept now directories on_way next (Ok done) =
    KeepsLoads later (paths_seen later new) given now
    × ((value : Evaluation) (files : FileMap) (command : List ℕ) (path : List ℕ) (s : UnitState) (end : UnitState → Piece) → IsEvaluation value → AgreesWith files given → Holds names path old s →
    GoesOn later path new
    (tokens_before (put_of names old) (waiting_piece (setting_of (directories_alone directories command) files value) names kept.files.items 200 on_way end s))
    (λ u. waiting_piece (setting_of (directories_alone directories command) files value) later now.files.items 200 next end u))
IsStepped names later old new given kept now directories on_way next (Err fault) =
    EachPathIsLoadedOnce given
    × ((value : Evaluation) (files : FileMap) (command : List ℕ) (path : List ℕ) (s : UnitState) (end : UnitState → Piece) → IsEvaluation value → AgreesWith files given → Holds names path old s →
    EndsUnit later
    (tokens_before (put_of names old) (waiting_piece (setting_of (directories_alone directories command) files value) names kept.files.items 200 on_way end s)) fault)

-- the same of one file, read to its end with all that it includes
abbrev pub IsReadWhole : List (List ℕ) → List (List ℕ) → State → State → List Loaded → Kept → Kept → List (List ℕ) → ℕ → Result Unit PreFault → Type 0
IsReadWhole names later old new given kept now directories place (Ok done) =
    KeepsLoads later (paths_seen later new) given now
    × ((value : Evaluation) (files : FileMap) (command : List ℕ) (path : List ℕ) (s : UnitState) (end : UnitState → Piece) → IsEvaluation value → AgreesWith files given → Holds names path old s →
    GoesOn later path new
    (tokens_before (put_of names old)
    (and_then (over_parts value (reader (setting_of (directories_alone directories command) files value) unit_limits.include_depth) (parts_of names (tokens_kept kept.files.items place)) [] s) end)) end)
IsReadWhole names later old new given kept now directories place (Err fault) =
    EachPathIsLoadedOnce given
    × ((value : Evaluation) (files : FileMap) (command : List ℕ) (path : List ℕ) (s : UnitState) (end : UnitState → Piece) → IsEvaluation value → AgreesWith files given → Holds names path old s →
    EndsUnit later
    (tokens_before (put_of names old)
    (and_then (over_parts value (reader (setting_of (directories_alone directories command) files value) unit_limits.include_depth) (parts_of names (tokens_kept kept.files.items place)) [] s) end)) fault)
