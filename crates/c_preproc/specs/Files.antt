-- How what is left of a file is seen by the definitions of `meaning_preprocessing`.
use Rattle.std.specs.Prelude.{ℕ, ◌<◌, List, length, Result, Ok, Err, ⊤}
use Rattle.meaning_preprocessing.specs.Groups.{Evaluation}
use Rattle.meaning_preprocessing.specs.State.{Continues, Piece, and_then, only_ending}
use Rattle.meaning_preprocessing.specs.Unit.{Reader}
use Rattle.c_tokens.specs.declared.token.Token.{Token}
use Rattle.c_preproc.specs.Opens.{open_piece}
use Rattle.c_preproc.specs.Requests.{IsKnownRequest, request_seen}
use Rattle.c_preproc.specs.States.{EndsUnit, GoesOn}
use Rattle.c_preproc.specs.declared.file.OpenFile.{OpenFile}
use Rattle.c_preproc.specs.declared.file.Read.{Read}
use Rattle.c_preproc.specs.declared.file.Read.TheVariants.{Part, Include, End}
use Rattle.c_preproc.specs.declared.kept.KeptFile.{KeptFile}
use Rattle.c_preproc.specs.declared.pre_fault.PreFault.{PreFault}
use Rattle.c_preproc.specs.declared.state.State.{State}

-- The result tells what comes of a file behind the front that was read: of what is left, of a file that is read before that,
-- and what comes at its end.
abbrev pub IsReadPart : List (List ℕ) → Evaluation → Reader → List ℕ → State → List KeptFile → OpenFile → Piece → Result Read PreFault → Type 0
IsReadPart names value include path state files file whole (Ok Part) = GoesOn names path state whole (λ s. open_piece value include names files file s)
IsReadPart names value include path state files file whole (Ok (Include request)) =
    GoesOn names path state whole (λ s. and_then (include (request_seen names request) s) (λ u. open_piece value include names files file u))
IsReadPart names value include path state files file whole (Ok End) = GoesOn names path state whole (λ s. only_ending (Continues s))
IsReadPart names value include path state files file whole (Err fault) = EndsUnit names whole fault

-- the same of its last text, behind which nothing is left
abbrev pub IsReadEnd : List (List ℕ) → List ℕ → State → Piece → Result Read PreFault → Type 0
IsReadEnd names path state whole (Ok read) = GoesOn names path state whole (λ s. only_ending (Continues s))
IsReadEnd names path state whole (Err fault) = EndsUnit names whole fault

-- each id of what is asked for is one of the table
abbrev pub IsKnownRead : List (List ℕ) → Read → Type 0
IsKnownRead names Part = ⊤
IsKnownRead names (Include request) = IsKnownRequest names request
IsKnownRead names End = ⊤

-- fewer tokens are left
abbrev pub IsShorter : List Token → List Token → Read → Type 0
IsShorter before now Part = length now < length before
IsShorter before now (Include request) = length now < length before
IsShorter before now End = ⊤
