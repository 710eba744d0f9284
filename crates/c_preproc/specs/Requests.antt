-- How the line of an `#include` is seen by the definitions of `meaning_preprocessing`.
use Rattle.std.specs.Prelude.{◌≡◌, ℕ, List, Result, Ok, Err, IfSome}
use Rattle.meaning_preprocessing.specs.Groups.{Turn, Includes, Halts}
use Rattle.meaning_preprocessing.specs.Search as search
use Rattle.meaning_preprocessing.specs.State.{UnitState}
use Rattle.c_tokens.specs.Seen.{IsKnown, at_of, text_of}
use Rattle.c_directives.specs.Headers.{IsKnownHeader, header_seen}
use Rattle.c_preproc.specs.States.{Holds, stop_of}
use Rattle.c_preproc.specs.declared.include_line.HeaderRequest.{HeaderRequest}
use Rattle.c_preproc.specs.declared.pre_fault.PreFault.{PreFault}
use Rattle.c_preproc.specs.declared.state.State.{State}

abbrev pub request_seen : List (List ℕ) → HeaderRequest → search.HeaderRequest
request_seen names request = record { header = header_seen names request.header; asking = text_of names request.asking; place = at_of request.place }

-- its ids are those of the table
abbrev pub IsKnownRequest : List (List ℕ) → HeaderRequest → Type 0
IsKnownRequest names request = IsKnownHeader names request.header × IsKnown names request.asking

-- the line asks for a file, or ends the unit
abbrev pub IsAsked : List (List ℕ) → List ℕ → State → Result HeaderRequest PreFault → Turn → Type 0
IsAsked names path state (Ok request) turn = (s : UnitState) × Holds names path state s × (turn ≡ Includes (request_seen names request) s)
IsAsked names path state (Err fault) turn = IfSome (stop_of names fault) (λ stop. turn ≡ Halts stop)
