-- What holds of the machine: silence is safe, and why.
use Rattle.std.specs.Prelude.{◌≡◌, ℕ, true, List, [], ◌∷◌, ◌++◌, Some, map, slice_get, slice_set}
use Rattle.meaning_types.specs.Types.{TypeTree}
use Rattle.meaning_tree.specs.Trees.{SyntaxTree}
use Rattle.meaning_syntax.specs.Items.{Word, Statement, Object, Function}
use Rattle.meaning_syntax.specs.Trees.{IsInFirstForm, statement_trees}
use Rattle.meaning_first_rules.specs.Bindings.{Binding}
use Rattle.meaning_first_rules.specs.Typing.{declared_type}
use Rattle.meaning_first_rules.specs.Failures.{IsListing}
use Rattle.meaning_machine.specs.Values.{In, Value, Block, Fits}
use Rattle.meaning_machine.specs.Outcomes.{Gives}
use Rattle.meaning_machine.specs.Memory.{adopt, content_at}
use Rattle.meaning_machine.specs.Code.{statement_code}
use Rattle.meaning_machine.specs.Machine.{Control, EnterBody, Finished, Next, Done, lvalue_of, step}
use Rattle.meaning_machine.specs.Runs.{World, opening, Move, Start, Step, Write, Moves, Runs, IsSafe, bindings_in}
use Rattle.meaning_machine.specs.laws.Soundness.{Last, AreSoundBlocks, IsSoundControl, IsSoundOutcome, IsSoundWorld}

-- blocks outlast each move, of units with failures too
abbrev pub BlocksLast : Type 0
BlocksLast = (unit : SyntaxTree) (before after : World) (move : Move) → Moves unit before move after → Last before.blocks after.blocks

-- a step from what is sound is no fault, and leads to what is sound
abbrev pub StepsAreSound : Type 0
StepsAreSound =
    (scope : List Binding) (blocks : List Block) (control : Control) → AreSoundBlocks scope blocks → IsSoundControl scope control
    → IsSoundOutcome scope (step scope blocks control)

-- each move in a unit without failures leads from a sound world to a sound one
abbrev pub MovesAreSound : Type 0
MovesAreSound =
    (unit : SyntaxTree) → IsInFirstForm unit → IsListing unit []
    → (before after : World) (move : Move) → IsSoundWorld (bindings_in unit) before → Moves unit before move after → IsSoundWorld (bindings_in unit) after

-- each world that a run of a unit without failures reaches is sound
abbrev pub RunsAreSound : Type 0
RunsAreSound =
    (unit : SyntaxTree) → IsInFirstForm unit → IsListing unit []
    → (moves : List Move) (world : World) → Runs unit moves world → IsSoundWorld (bindings_in unit) world

-- no run of a unit without failures meets a fault
abbrev pub SilenceIsSafe : Type 0
SilenceIsSafe = (unit : SyntaxTree) → IsInFirstForm unit → IsListing unit [] → IsSafe unit

-- Stores

-- a value that fits some type fits the type by which it is adopted, if it is
abbrev pub AdoptedValuesFit : Type 0
AdoptedValuesFit =
    (blocks : List Block) (value adopted : Value) (source type_ : TypeTree)
    → Fits blocks value source → adopt value type_ ≡ Gives adopted → Fits blocks adopted type_

-- Moves are possible, so that safety is said of something

-- the opening world is reached
abbrev pub RunsBegin : Type 0
RunsBegin = (unit : SyntaxTree) → Runs unit [] (opening unit)

-- whatever world is reached, each function of the unit can be called, and an activity enters its statements
abbrev pub FunctionsStart : Type 0
FunctionsStart =
    (unit : SyntaxTree) (form : IsInFirstForm unit) (moves : List Move) (world : World) → Runs unit moves world
    → (number : ℕ) (name : List ℕ) (statements : List Statement) → slice_get form.items number ≡ Some (Function name statements)
    → (first : ℕ)
    × Moves unit world (Start number)
    (record world { activities = world.activities ++ EnterBody (map statement_code (statement_trees first statements)) ∷ [] })

-- each activity takes its next step, unless this is undefined or a fault, and the others stay where they are
abbrev pub ActivitiesGoOn : Type 0
ActivitiesGoOn =
    (unit : SyntaxTree) (world : World) (activity : ℕ) (control next : Control) (blocks : List Block)
    → slice_get world.activities activity ≡ Some control → step (bindings_in unit) world.blocks control ≡ Next blocks next
    → Moves unit world (Step activity) (record { blocks = blocks; activities = slice_set world.activities activity next })

abbrev pub ActivitiesEnd : Type 0
ActivitiesEnd =
    (unit : SyntaxTree) (world : World) (activity : ℕ) (control : Control)
    → slice_get world.activities activity ≡ Some control → step (bindings_in unit) world.blocks control ≡ Done
    → Moves unit world (Step activity) (record world { activities = slice_set world.activities activity Finished })

-- the block is alive, and its cell at the path has this value
abbrev pub Holds : World → ℕ → List ℕ → Value → Type 0
Holds world number path value =
    (block : Block) × (slice_get world.blocks number ≡ Some block) × (block.is_alive ≡ true) × (content_at block.cells path ≡ Some (Some value))

-- whatever world is reached, into each object of the unit each value can be written that fits its type
abbrev pub ObjectsAreWritten : Type 0
ObjectsAreWritten =
    (unit : SyntaxTree) (form : IsInFirstForm unit) (moves : List Move) (world : World) → Runs unit moves world
    → (number : ℕ) (words : List Word) (stars : ℕ) (name : List ℕ) → slice_get form.items number ≡ Some (Object words stars name)
    → (value : Value) → Fits world.blocks value (declared_type (record { words = words; stars = stars }))
    → (after : World) × Moves unit world (Write number [] value) after × Holds after number [] value

-- and there the object's name is read: it designates the one element of the block
abbrev pub NamesDesignate : Type 0
NamesDesignate =
    (unit : SyntaxTree) (form : IsInFirstForm unit)
    (number : ℕ) (words : List Word) (stars : ℕ) (name : List ℕ) → slice_get form.items number ≡ Some (Object words stars name)
    → lvalue_of (bindings_in unit) name
    ≡ Some (record { type_ = declared_type (record { words = words; stars = stars }); spot = In number [] 0 1 })
