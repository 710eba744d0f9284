-- What comes of the texts that a unit begins with.
use Rattle.std.specs.Prelude.{◌≡◌, ℕ, List, Result, Ok, Err}
use Rattle.meaning_outside.specs.Files.{FileMap}
use Rattle.meaning_outside.specs.Loads.{Loaded, AgreesWith, EachPathIsLoadedOnce}
use Rattle.meaning_preprocessing.specs.Groups.{Evaluation}
use Rattle.meaning_preprocessing.specs.State.{UnitState, Continues, Piece, and_then, only_ending, tokens_before}
use Rattle.meaning_preprocessing.specs.Unit.{IsEvaluation, main_piece, reader, text_of_file, unit_limits}
use Rattle.c_preproc.specs.Loads.{KeepsLoads, paths_seen}
use Rattle.c_preproc.specs.States.{EndsUnit, GoesOn, Holds, put_of}
use Rattle.c_preproc.specs.Steps.{directories_alone}
use Rattle.c_preproc.specs.Units.{setting_of}
use Rattle.c_preproc.specs.declared.kept.Kept.{Kept}
use Rattle.c_preproc.specs.declared.pre_fault.PreFault.{PreFault}
use Rattle.c_preproc.specs.declared.state.State.{State}

-- The result tells what comes of the text of `<command>`, over each map of files that agrees with the loads.
abbrev pub IsReadCommand : List (List ℕ) → List (List ℕ) → State → State → List Loaded → Kept → List (List ℕ) → List ℕ → Result Unit PreFault → Type 0
IsReadCommand names later old new given kept directories text (Ok done) =
    KeepsLoads later (paths_seen later new) given kept
    × ((value : Evaluation) (files : FileMap) (command : List ℕ) (path : List ℕ) (s : UnitState) (end : UnitState → Piece) → IsEvaluation value → AgreesWith files given → Holds names path old s →
    GoesOn later path new
    (tokens_before (put_of names old)
    (and_then (text_of_file value (reader (setting_of (directories_alone directories command) files value) unit_limits.include_depth) 0 text s) end)) end)
IsReadCommand names later old new given kept directories text (Err fault) =
    EachPathIsLoadedOnce given
    × ((value : Evaluation) (files : FileMap) (command : List ℕ) (path : List ℕ) (s : UnitState) (end : UnitState → Piece) → IsEvaluation value → AgreesWith files given → Holds names path old s →
    EndsUnit later
    (tokens_before (put_of names old)
    (and_then (text_of_file value (reader (setting_of (directories_alone directories command) files value) unit_limits.include_depth) 0 text s) end)) fault)

-- the same of the file with the path
abbrev pub IsReadMain : List (List ℕ) → List (List ℕ) → State → State → List Loaded → List (List ℕ) → List ℕ → Result Unit PreFault → Type 0
IsReadMain names later old new given directories path (Ok done) =
    EachPathIsLoadedOnce given
    × ((value : Evaluation) (files : FileMap) (command : List ℕ) (s : UnitState) → IsEvaluation value → AgreesWith files given → Holds names path old s →
    GoesOn later path new
    (tokens_before (put_of names old) (main_piece (setting_of (directories_alone directories command) files value) path s)) (λ u. only_ending (Continues u)))
IsReadMain names later old new given directories path (Err fault) =
    EachPathIsLoadedOnce given
    × ((value : Evaluation) (files : FileMap) (command : List ℕ) (s : UnitState) → IsEvaluation value → AgreesWith files given → Holds names path old s →
    EndsUnit later
    (tokens_before (put_of names old) (main_piece (setting_of (directories_alone directories command) files value) path s)) fault)
