-- Every world that a run of a unit without failures reaches is sound.
use Rattle.std.proofs.Common.{◌≡◌, ◌≢◌, ℕ, zero, suc, Bool, true, false, List, [], ◌∷◌, All, Option, Some, None, slice_get, if◌then◌else◌, refl, subst}
use Rattle.std.specs.Str.{bytes_eq}
use Rattle.std.proofs.lemmas.List.Elements.{All-append, All-cons, All-nil, All-get_or, All-set}
use Rattle.std.proofs.lemmas.Option.{get_or_from_slice_get, same_Some, slice_get_within}
use Rattle.meaning_types.specs.Types.{TypeTree, Typed, IntegerTree, PointerTree}
use Rattle.meaning_tree.specs.Trees.{SyntaxTree, external_parts}
use Rattle.meaning_syntax.specs.Trees.{IsInFirstForm}
use Rattle.meaning_first_rules.specs.Bindings.{Binding}
use Rattle.meaning_first_rules.specs.Failures.{IsListing}
use Rattle.meaning_machine.specs.Values.{Value, Block}
use Rattle.meaning_machine.specs.Outcomes.{FaultKind}
use Rattle.meaning_machine.specs.Code.{ValueCode}
use Rattle.meaning_machine.specs.Machine.{Control, EnterBody, Finished, Outcome, Next, Done, Undefined, Fault, step}
use Rattle.meaning_machine.specs.Runs.{World, opening, opening_value, opening_block, Move, Start, Step, Write, body_at, bindings_in, Starts, Takes, Moves, Runs, IsSafe}
use Rattle.meaning_machine.specs.laws.Soundness.{ValueFitsIn, IsSoundControl, CellsFit, IsStatement, IsSoundOutcome, IsSoundWorld, first_blocks}
use Rattle.meaning_constants.proofs.Numbers.{zero-in_range}
use Rattle.meaning_machine.proofs.Similar.{fits-made}
use Rattle.meaning_machine.proofs.Storage.{sound-write}
use Rattle.meaning_machine.proofs.Steps.{step_is_sound}
use Rattle.meaning_machine.proofs.WellTyped.{are_statements}

-- The opening world

-- zero and null fit
opening_value-fits : (scope : List Binding) (type_ : TypeTree) (value : Value) → opening_value type_ ≡ Some value → ValueFitsIn scope value type_
opening_value-fits scope (Typed (IntegerTree kind) qualifiers flags) value is =
    subst (λ v. ValueFitsIn scope v (Typed (IntegerTree kind) qualifiers flags)) (same_Some _ _ is) (refl, refl, refl, zero-in_range kind)
opening_value-fits scope (Typed (PointerTree target) qualifiers flags) value is =
    subst (λ v. ValueFitsIn scope v (Typed (PointerTree target) qualifiers flags)) (same_Some _ _ is) (refl, tt)
opening_value-fits scope (Typed base qualifiers flags) value is = absurd (cc is)

-- the one cell of an object has its one value
only_content : (is_there : Bool) (content : Option Value) (value : Value) → (if is_there then Some content else None) ≡ Some (Some value) → content ≡ Some value
only_content true content value e = cc e
only_content false content value e = cc e

-- the cell of an object begins with a value that fits
opening_block-fits : (scope : List Binding) (object : Option TypeTree) → CellsFit scope (opening_block object)
opening_block-fits scope None declared made path value there = cc made
opening_block-fits scope (Some type_) declared made path value there =
    subst (λ t. ValueFitsIn scope value t) (cc made)
    (opening_value-fits scope type_ value (only_content (bytes_eq [] path) (opening_value type_) value there))

opening_blocks-fit :
    (scope bindings : List Binding) (number : ℕ) (block : Block) → slice_get (first_blocks bindings) number ≡ Some block → CellsFit scope block
opening_blocks-fit scope [] number block e = cc e
opening_blocks-fit scope (binding ∷ bindings) zero block e =
    let same : opening_block binding.object ≡ block = cc e in subst (CellsFit scope) same (opening_block-fits scope binding.object)
opening_blocks-fit scope (binding ∷ bindings) (suc number) block e = opening_blocks-fit scope bindings number block e

-- no activity runs, and each cell fits
opening-sound : (unit : SyntaxTree) → IsSoundWorld (bindings_in unit) (opening unit)
opening-sound unit =
    let scope : List Binding = bindings_in unit in
    ((refl, opening_blocks-fit scope scope), All-nil (IsSoundControl scope))

-- Activities

-- what holds of all holds of one
All-at : {X : Type 0} (P : X → Type 0) (all : List X) (number : ℕ) (one : X) → All P all → slice_get all number ≡ Some one → P one
All-at P all number one h e =
    subst P (get_or_from_slice_get all number one one e) (All-get_or P all number one (slice_get_within all number one e) h)

-- Moves

-- a function starts whose statements have types
starts-sound :
    (scope : List Binding) (before after : World) (body : Option (List ValueCode)) →
    ((statements : List ValueCode) → body ≡ Some statements → All (IsStatement scope) statements) →
    IsSoundWorld scope before → Starts before body after → IsSoundWorld scope after
starts-sound scope before after None typed sound starts = absurd starts
starts-sound scope before after (Some statements) typed sound starts = rw starts (
  sound.0,
  All-append (IsSoundControl scope) before.activities _ sound.1
      (All-cons (IsSoundControl scope) (EnterBody statements) [] (typed statements refl) (All-nil (IsSoundControl scope))),
)

-- an activity takes a step
takes-sound :
    (scope : List Binding) (before after : World) (activity : ℕ) (outcome : Outcome) →
    IsSoundWorld scope before → IsSoundOutcome scope outcome → Takes before activity outcome after → IsSoundWorld scope after
takes-sound scope before after activity (Next blocks control) sound is takes =
    rw takes (is.0, All-set (IsSoundControl scope) before.activities activity control is.1 sound.1)
takes-sound scope before after activity Done sound is takes =
    rw takes (sound.0, All-set (IsSoundControl scope) before.activities activity Finished tt sound.1)
takes-sound scope before after activity (Undefined reason token) sound is takes = absurd takes
takes-sound scope before after activity (Fault kind token) sound is takes = absurd takes

-- the next step of an activity in a sound world is sound
activity-sound :
    (scope : List Binding) (world : World) (activity : ℕ) (control : Control) → IsSoundWorld scope world → slice_get world.activities activity ≡ Some control →
    IsSoundOutcome scope (step scope world.blocks control)
activity-sound scope world activity control sound e =
    step_is_sound scope world.blocks control sound.0 (All-at (IsSoundControl scope) world.activities activity control sound.1 e)

-- each move keeps a world sound
pub move_is_sound :
    (unit : SyntaxTree) → IsInFirstForm unit → IsListing unit [] →
    (before after : World) (move : Move) → IsSoundWorld (bindings_in unit) before → Moves unit before move after → IsSoundWorld (bindings_in unit) after
move_is_sound unit form listing before after (Start function) sound moves =
    starts-sound (bindings_in unit) before after (body_at function (external_parts unit)) (are_statements unit form listing function) sound moves
move_is_sound unit form listing before after (Step activity) sound moves =
    let scope : List Binding = bindings_in unit in
    takes-sound scope before after activity (step scope before.blocks moves.0) sound (activity-sound scope before activity moves.0 sound moves.1) moves.2
move_is_sound unit form listing before after (Write number path value) sound moves = rw moves.3 (
  sound-write (bindings_in unit) before.blocks number moves.0 path value moves.2.0 sound.0 moves.1 moves.2.2
      (fits-made before.blocks (first_blocks (bindings_in unit)) value moves.2.0 sound.0.0 moves.2.5),
  sound.1,
)

-- Runs

-- each world that a run reaches is sound
pub run_is_sound :
    (unit : SyntaxTree) → IsInFirstForm unit → IsListing unit [] →
    (moves : List Move) (world : World) → Runs unit moves world → IsSoundWorld (bindings_in unit) world
run_is_sound unit form listing [] world run = rw run (opening-sound unit)
run_is_sound unit form listing (move ∷ earlier) world run =
    move_is_sound unit form listing run.0 world move (run_is_sound unit form listing earlier run.0 run.1) run.2

-- what is a fault is not sound
no_fault : (scope : List Binding) (outcome : Outcome) (kind : FaultKind) (token : ℕ) → IsSoundOutcome scope outcome → outcome ≢ Fault kind token
no_fault scope outcome kind token sound e = subst (IsSoundOutcome scope) e sound

-- no run meets a fault
pub unit_is_safe : (unit : SyntaxTree) → IsInFirstForm unit → IsListing unit [] → IsSafe unit
unit_is_safe unit form listing moves world run activity control e kind token =
    let scope : List Binding = bindings_in unit in
    no_fault scope (step scope world.blocks control) kind token (activity-sound scope world activity control (run_is_sound unit form listing moves world run) e)
