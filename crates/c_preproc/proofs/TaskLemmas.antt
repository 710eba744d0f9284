-- What is left to do at a directive, done.
use Rattle.std.proofs.Common.{◌≡◌, ℕ, Bool, List, Some, IfSome, MatchResult, Result, Ok, Err, sym, ap, subst, ◌∙◌}
use Rattle.meaning_text.specs.Tokens.{Tok}
use Rattle.meaning_preprocessing.specs.Groups as groups
use Rattle.meaning_preprocessing.specs.Groups.{Turn, Turns, Halts}
use Rattle.meaning_preprocessing.specs.State.{UnitState, Stop}
use Rattle.c_macros.specs.Seen.{KnowsAll}
use Rattle.c_macros.specs.Table.{Table}
use Rattle.c_directives.specs.Groups.{IsKept, groups_seen}
use Rattle.c_directives.specs.declared.groups.Group.{Group}
use Rattle.c_preproc.specs.Opens.{IsTurnDone}
use Rattle.c_preproc.specs.States.{Holds, IsDone, stop_of}
use Rattle.c_preproc.specs.Texts.{IsJudgedLine}
use Rattle.c_preproc.specs.declared.pre_fault.PreFault.{PreFault}
use Rattle.c_preproc.specs.declared.state.State.{State}
use Rattle.c_preproc.specs.declared.tasks.Turned.{Turned}
use Rattle.c_preproc.specs.declared.tasks.Turned.TheVariants as turned
use Rattle.c_preproc.proofs.StateLemmas.{with-macros}
use Rattle.c_preproc.proofs.TextLemmas.{told-stop}

-- a condition that was judged begins a part
pub judged-done : (names : List (List ℕ)) (path : List ℕ) (state : State) (holds : Bool) (next : Bool → List groups.Group) (all : List Group) (turn : Turn)
    → IsJudgedLine names path state (λ b u. Turns (next b) u) (Ok holds) turn → groups_seen all ≡ next holds → IsDone names path state all (Ok tt) turn
judged-done names path state holds next all turn judged are = (judged.0, judged.1, judged.2 ∙ ap (λ open_groups. Turns open_groups judged.0) (sym are))

-- what a line did to the macros
pub kept-done : (names : List (List ℕ)) (path : List ℕ) (old : State) (s : UnitState) (hash : Tok) (all : List Group) (table : Table) (turn : Turn) → Holds names path old s → KnowsAll names table → table.files ≡ old.macros.files
    → IsKept names s hash (groups_seen all) table (Ok tt) turn → IsDone names path (record old { macros = table }) all (Ok tt) turn
kept-done names path old s hash all table turn holds knows files kept =
    (record s { definitions = kept.0 }, with-macros names path old s table kept.0 kept.2 knows files holds, kept.1)

-- an error at a directive
pub halts-told : (names : List (List ℕ)) (fault : PreFault) (stop : Stop) (turn : Turn) → stop_of names fault ≡ Some stop → turn ≡ Halts stop → IfSome (stop_of names fault) (λ found. turn ≡ Halts found)
halts-told names fault stop turn told is = told-stop (stop_of names fault) stop (λ found. turn ≡ Halts found) told is

-- what was done leaves nothing to those who know files
pub nothing-left : (names : List (List ℕ)) (path : List ℕ) (state : State) (before : List groups.Group) (all : List Group) (turn : Turn) (done : Result Unit PreFault) (result_ : Result Turned PreFault)
    → MatchResult done (λ _. result_ ≡ Ok turned.Done) (λ fault. result_ ≡ Err fault) → IsDone names path state all done turn → IsTurnDone names path state before all result_ turn
nothing-left names path state before all turn (Ok nothing) result_ is done = subst (λ r. IsTurnDone names path state before all r turn) (sym is) done
nothing-left names path state before all turn (Err fault) result_ is done = subst (λ r. IsTurnDone names path state before all r turn) (sym is) done
