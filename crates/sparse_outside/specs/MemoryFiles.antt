-- Files over memory as their callers see them.
use Rattle.std.specs.Prelude.{ℕ, List, refl}
use Rattle.std.specs.Coded.{Coded, code_by, coded×, coded_ℕ, coded_list}
use Rattle.meaning_outside.specs.Files.{FileMap}
use Rattle.meaning_outside.specs.Loads.{Loaded}
use Rattle.sparse_outside.specs.Log.{file_map_code}
use Rattle.sparse_outside.specs.Trace.{loads_code}

pub record MemoryState : Type 0 where
  -- the files by their paths
  pub files : FileMap
  -- the numbers of the loads that fail, counted from 1
  pub failing : List ℕ
  -- how many loads there were, as far as a u64 counts
  pub loads : ℕ
  -- how many of them failed
  pub faults : ℕ
  -- what the loads gave, in order
  pub trace : List Loaded

-- a state is stored as its fields
abbrev pub memory_state_code : Coded MemoryState
memory_state_code =
    code_by (FileMap × (List ℕ × (ℕ × (ℕ × List Loaded))))
    (coded× file_map_code (coded× (coded_list coded_ℕ) (coded× coded_ℕ (coded× coded_ℕ loads_code))))
    (λ m. (m.files, (m.failing, (m.loads, (m.faults, m.trace)))))
    (λ p. record { files = p.0; failing = p.1.0; loads = p.1.1.0; faults = p.1.1.1.0; trace = p.1.1.1.1 })
    (λ _. refl)
