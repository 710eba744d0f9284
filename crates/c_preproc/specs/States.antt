-- How what stays from one line of a unit to the next, and what ends a unit, are seen by the definitions of `meaning_preprocessing`.
use Rattle.std.specs.Prelude.{◌≡◌, ◌<◌, ◌≤◌, ◌+◌, ◌^◌, ℕ, List, [], ◌∷◌, length, map, slice_get, All, Option, Some, None, option_map, IfSome, Result, Ok, Err, ⊤}
use Rattle.meaning_text.specs.Tokens.{Tok}
use Rattle.meaning_preprocessing.specs.Groups.{Turn, Turns, Halts}
use Rattle.meaning_preprocessing.specs.State.{UnitState, Stop, Refuses, Passes, IsOver, Piece, path_of, spelled_path, tokens_before}
use Rattle.meaning_preprocessing.specs.Unit.{capped, unit_limits}
use Rattle.c_tokens.specs.Seen.{IsKnown, at_of, text_of, toks_of}
use Rattle.c_macros.specs.Ends.{budget_by}
use Rattle.c_macros.specs.Seen.{KnowsAll}
use Rattle.c_macros.specs.Table.{Table, spelling_of_file}
use Rattle.c_directives.specs.Conditions.{AreKnown, HasMacros}
use Rattle.c_directives.specs.Made.{AreMadeWords}
use Rattle.c_directives.specs.Groups.{groups_seen}
use Rattle.c_directives.specs.declared.groups.Group.{Group}
use Rattle.c_preproc.specs.declared.pre_fault.PreFault.{PreFault}
use Rattle.c_preproc.specs.declared.pre_fault.PreFault.TheVariants.{Error, ReadFault, Limit, Memory}
use Rattle.c_preproc.specs.declared.state.State.{State}

-- `__FILE__` is told in each of the files, and in no other
abbrev pub HasFiles : List (List ℕ) → List (List ℕ) → Table → Type 0
HasFiles names paths table =
    (file : ℕ) → option_map (text_of names) (spelling_of_file table file) ≡ slice_get (map spelled_path (path_of paths 0 ∷ paths)) file

-- The code's state is this one, where FILE has this path. Each of its ids is one of the table, and no limit is passed.
pub record Holds (names : List (List ℕ)) (path : List ℕ) (state : State) (s : UnitState) : Type 0 where
  pub made : AreMadeWords names state.made
  pub macros : HasMacros names s.definitions state.macros
  pub knows : KnowsAll names state.macros
  pub files : HasFiles names s.paths state.macros
  pub budget : budget_by state.budget ≡ s.budget
  pub sum : state.budget.counter + state.budget.replacements < 2 ^ 32
  pub bytes : state.bytes ≡ s.bytes
  pub paths : map (text_of names) state.paths.items ≡ path_of s.paths 0 ∷ s.paths
  pub paths_known : All (IsKnown names) state.paths.items
  pub main : (others : List (List ℕ)) × (s.paths ≡ path ∷ others)
  pub undefined : toks_of names state.undefined.items ≡ s.undefined
  pub undefined_known : AreKnown names state.undefined.items
  pub few : length state.tokens.items ≤ unit_limits.unit_tokens
  pub tokens_known : AreKnown names state.tokens.items

-- it is some state
abbrev pub IsHeld : List (List ℕ) → State → Type 0
IsHeld names state = (path : List ℕ) × (s : UnitState) × Holds names path state s

-- the tokens that were put
abbrev pub put_of : List (List ℕ) → State → List Tok
put_of names state = toks_of names state.tokens.items

-- why a unit ends; a failed load and want of memory say nothing of it
abbrev pub stop_of : List (List ℕ) → PreFault → Option Stop
stop_of names (Error kind place word path) =
    Some (Refuses (record { kind = kind; place = at_of place; path = text_of names path; word = text_of names word }))
stop_of names ReadFault = None
stop_of names (Limit limit) = Some (Passes limit)
stop_of names Memory = None

-- its ids are those of the table
abbrev pub IsKnownFault : List (List ℕ) → PreFault → Type 0
IsKnownFault names (Error kind place word path) = IsKnown names word × IsKnown names path
IsKnownFault names ReadFault = ⊤
IsKnownFault names (Limit limit) = ⊤
IsKnownFault names Memory = ⊤

-- nor did a load fail
abbrev pub IsFaultInText : List (List ℕ) → PreFault → Type 0
IsFaultInText names (Error kind place word path) = IsKnown names word × IsKnown names path
IsFaultInText names ReadFault = ⊥
IsFaultInText names (Limit limit) = ⊤
IsFaultInText names Memory = ⊤

-- all of a unit comes of what is put and of what follows in the state
abbrev pub GoesOn : List (List ℕ) → List ℕ → State → Piece → (UnitState → Piece) → Type 0
GoesOn names path state whole next = (s : UnitState) × Holds names path state s × (tokens_before (put_of names state) (next s) ≡ whole)

-- a unit of which this is all ends as the fault says
abbrev pub EndsUnit : List (List ℕ) → Piece → PreFault → Type 0
EndsUnit names whole fault = IfSome (stop_of names fault) (λ stop. (capped unit_limits.unit_tokens whole).ending ≡ IsOver stop)

-- what a directive did: the file goes on within these groups, or the unit ends
abbrev pub IsDone : List (List ℕ) → List ℕ → State → List Group → Result Unit PreFault → Turn → Type 0
IsDone names path state groups (Ok done) turn = (s : UnitState) × Holds names path state s × (turn ≡ Turns (groups_seen groups) s)
IsDone names path state groups (Err fault) turn = IfSome (stop_of names fault) (λ stop. turn ≡ Halts stop)
