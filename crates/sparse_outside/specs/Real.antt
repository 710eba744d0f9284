-- The files of the system, and a sink over a writer, as their callers see them.
use Rattle.std.specs.Prelude.{ℕ, List, Option, refl}
use Rattle.std.specs.Coded.{Coded, code_by, coded×, coded_ℕ, coded_list, coded_option}
use Rattle.meaning_outside.specs.Loads.{Loaded}
use Rattle.sparse_outside.specs.Trace.{loads_code}

pub record RealFilesState : Type 0 where
  -- what the loads gave, in order
  pub trace : List Loaded
  -- how many loads failed, as far as a u64 counts
  pub faults : ℕ

-- a state is stored as its fields
abbrev pub real_files_state_code : Coded RealFilesState
real_files_state_code =
    code_by (List Loaded × ℕ) (coded× loads_code coded_ℕ)
    (λ state. (state.trace, state.faults))
    (λ fields. record { trace = fields.0; faults = fields.1 })
    (λ _. refl)

pub record RealSinkState : Type 0 where
  -- what the writer holds, where it tells
  pub written : Option (List ℕ)
  -- the bytes that the puts said they took, in order
  pub taken : List ℕ
  -- how many puts failed, as far as a u64 counts
  pub faults : ℕ

-- a state is stored as its fields
abbrev pub real_sink_state_code : Coded RealSinkState
real_sink_state_code =
    code_by (Option (List ℕ) × (List ℕ × ℕ)) (coded× (coded_option (coded_list coded_ℕ)) (coded× (coded_list coded_ℕ) coded_ℕ))
    (λ state. (state.written, (state.taken, state.faults)))
    (λ fields. record { written = fields.0; taken = fields.1.0; faults = fields.1.1 })
    (λ _. refl)
