-- Files over memory of which no load fails, as their callers see them.
use Rattle.std.specs.Prelude.{List, refl}
use Rattle.std.specs.Coded.{Coded, code_by, coded×}
use Rattle.meaning_outside.specs.Files.{FileMap}
use Rattle.meaning_outside.specs.Loads.{Loaded}
use Rattle.sparse_outside.specs.Log.{file_map_code}
use Rattle.sparse_outside.specs.Trace.{loads_code}

pub record HonestState : Type 0 where
  -- the files by their paths
  pub files : FileMap
  -- what the loads gave, in order
  pub trace : List Loaded

-- a state is stored as its fields
abbrev pub honest_state_code : Coded HonestState
honest_state_code =
    code_by (FileMap × List Loaded) (coded× file_map_code loads_code)
    (λ state. (state.files, state.trace))
    (λ fields. record { files = fields.0; trace = fields.1 })
    (λ _. refl)
