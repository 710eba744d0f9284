-- How expansions, and what conditions come to, are seen by the definitions of `meaning_preprocessing`.
use Rattle.std.specs.Prelude.{◌≡◌, ℕ, Bool, List, [], length, IfSome, Result, Ok, Err, ⊤}
use Rattle.meaning_text.specs.Tokens.{Tok}
use Rattle.vocabulary.specs.declared.error_kind.ErrorKind.TheVariants.{WrongNumberOfMacroArguments, UnterminatedMacroCall}
use Rattle.vocabulary.specs.declared.error_kind.ErrorKind.TheVariants as errors
use Rattle.meaning_preprocessing.specs.Groups.{Turn, Halts}
use Rattle.meaning_preprocessing.specs.State.{UnitState, Stop, Passes, Continues, IsOver, Piece, refused}
use Rattle.c_tokens.specs.declared.token.Token.{Token}
use Rattle.c_tokens.specs.Seen.{at_of, toks_of}
use Rattle.c_macros.specs.declared.expand_fault.ExpandFault.{ExpandFault}
use Rattle.c_macros.specs.declared.expand_fault.ExpandFault.TheVariants.{Arguments, OpenCall, BadPaste, Limit, Memory}
use Rattle.c_directives.specs.Groups.{word_seen}
use Rattle.c_directives.specs.declared.fault.LineFault.{LineFault}
use Rattle.c_directives.specs.declared.fault.LineFault.TheVariants as line
use Rattle.c_preproc.specs.declared.pre_fault.PreFault.{PreFault}
use Rattle.c_preproc.specs.declared.state.State.{State}
use Rattle.c_preproc.specs.States.{Holds, stop_of}

-- the piece has these tokens, and goes on in the state
abbrev pub IsExpanded : List (List ℕ) → List ℕ → State → Piece → List Token → Type 0
IsExpanded names path state piece tokens =
    (s : UnitState) × Holds names path state s × (piece ≡ record { tokens = toks_of names tokens; ending = Continues s })

-- how many tokens the fault tells of
abbrev pub before_in : ExpandFault → ℕ
before_in (Arguments place before) = before
before_in (OpenCall place before) = before
before_in (BadPaste place before) = before
before_in (Limit limit before) = before
before_in Memory = 0

-- behind so many tokens a piece ends so
pub record StopsBehind (piece : Piece) (before : ℕ) (stop : Stop) : Type 0 where
  pub tokens : length piece.tokens ≡ before
  pub ending : piece.ending ≡ IsOver stop

-- the piece ends as the fault says, which want of memory doesn't
abbrev pub StopsExpansion : UnitState → Piece → ExpandFault → Type 0
StopsExpansion s piece (Arguments place before) = StopsBehind piece before (refused s WrongNumberOfMacroArguments (at_of place) [])
StopsExpansion s piece (OpenCall place before) = StopsBehind piece before (refused s UnterminatedMacroCall (at_of place) [])
StopsExpansion s piece (BadPaste place before) = StopsBehind piece before (refused s errors.BadPaste (at_of place) [])
StopsExpansion s piece (Limit limit before) = StopsBehind piece before (Passes limit)
StopsExpansion s piece Memory = ⊤

-- the result tells whether a condition holds, or why there is no telling, or that memory is wanting
abbrev pub IsJudged : List (List ℕ) → UnitState → Tok → (Bool → UnitState → Turn) → Result Bool LineFault → Turn → Type 0
IsJudged names s hash next (Ok holds) turn = turn ≡ next holds s
IsJudged names s hash next (Err (line.Refused kind word)) turn = turn ≡ Halts (refused s kind hash.at (word_seen names word))
IsJudged names s hash next (Err line.Memory) turn = ⊤

-- the same of a line behind expansion
abbrev pub IsJudgedLine : List (List ℕ) → List ℕ → State → (Bool → UnitState → Turn) → Result Bool PreFault → Turn → Type 0
IsJudgedLine names path state next (Ok holds) turn = (s : UnitState) × Holds names path state s × (turn ≡ next holds s)
IsJudgedLine names path state next (Err fault) turn = IfSome (stop_of names fault) (λ stop. turn ≡ Halts stop)
