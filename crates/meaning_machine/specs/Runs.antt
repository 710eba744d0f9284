-- Runs: lists of moves from the opening world, for any number of activities in any order.
use Rattle.std.specs.Prelude.{◌≡◌, ◌≢◌, ℕ, suc, zero, true, pos, List, [], ◌∷◌, ◌++◌, Option, Some, None, map, false, slice_get, slice_set}
use Rattle.meaning_types.specs.Types.{TypeTree, Typed, BaseTree, IntegerTree, PointerTree}
use Rattle.meaning_tree.specs.Trees.{SyntaxTree, NoParts, Part, external_parts}
use Rattle.meaning_syntax.specs.Trees.{SyntaxParts}
use Rattle.meaning_first_rules.specs.Bindings.{Binding, bindings_of}
use Rattle.meaning_machine.specs.Values.{Null, Value, Integer, Pointer, ForObject, ForFunction, Block, Fits}
use Rattle.meaning_machine.specs.Outcomes.{FaultKind}
use Rattle.meaning_machine.specs.Memory.{content_at, block_with}
use Rattle.meaning_machine.specs.Code.{ValueCode, body_code}
use Rattle.meaning_machine.specs.Machine.{Control, EnterBody, Finished, Outcome, Next, Done, Undefined, Fault, step}

-- all storage, and what each activity does next
pub record World : Type 0 where
  pub blocks : List Block
  pub activities : List Control

-- The opening world: each object begins with zero or null (6.7.9 p10), and no activity runs

-- zero, or the null pointer; the first form has objects of no other type
abbrev pub zero_of : BaseTree → Option Value
zero_of (IntegerTree kind) = Some (Integer kind None false (pos 0))
zero_of (PointerTree target) = Some (Pointer target Null)
zero_of base = None

-- the value with which an object of this type begins, if it begins with one
abbrev pub opening_value : TypeTree → Option Value
opening_value (Typed base _ _) = zero_of base

-- the block of an object, with one cell, or of a function, without any
abbrev pub opening_block : Option TypeTree → Block
opening_block None = record { made = ForFunction; is_alive = true; cells = [] }
opening_block (Some declared) =
    record {
      made = ForObject declared;
      is_alive = true;
      cells = record { path = []; content = opening_value declared } ∷ [];
    }

-- what the declarations and functions of a unit bind, in order
abbrev pub bindings_among : SyntaxParts → List Binding
bindings_among NoParts = []
bindings_among (Part role tree parts) = bindings_of tree ++ bindings_among parts

-- what a unit binds, in order
abbrev pub bindings_in : SyntaxTree → List Binding
bindings_in unit = bindings_among (external_parts unit)

-- a block for each binding
abbrev pub opening : SyntaxTree → World
opening unit = record { blocks = map (λ binding. opening_block binding.object) (bindings_in unit); activities = [] }

-- Moves

-- what may happen next in a run
pub data Move : Type 0 where
  -- the function that stands there among the declarations and functions of the unit is called
  Start : (function : ℕ) → Move
  -- an activity takes a step
  Step : (activity : ℕ) → Move
  -- the outside writes a value into a cell of a block
  Write : (block : ℕ) (path : List ℕ) (value : Value) → Move

-- the body of the function that stands behind so many others
abbrev pub body_at : ℕ → SyntaxParts → Option (List ValueCode)
body_at function NoParts = None
body_at zero (Part role tree parts) = body_code tree
body_at (suc function) (Part role tree parts) = body_at function parts

-- a new activity runs these statements, if there is such a body
abbrev pub Starts : World → Option (List ValueCode) → World → Type 0
Starts before None after = ⊥
Starts before (Some statements) after = after ≡ record before { activities = before.activities ++ EnterBody statements ∷ [] }

-- an activity whose next step is undefined or a fault takes none
abbrev pub Takes : World → ℕ → Outcome → World → Type 0
Takes before activity (Next blocks control) after =
    after ≡ record { blocks = blocks; activities = slice_set before.activities activity control }
Takes before activity Done after = after ≡ record before { activities = slice_set before.activities activity Finished }
Takes before activity (Undefined reason token) after = ⊥
Takes before activity (Fault kind token) after = ⊥

-- the block is alive and has a cell at the path, and the value fits what it is made for
abbrev pub IsWritable : List Block → Block → List ℕ → Value → Type 0
IsWritable blocks block path value =
    (declared : TypeTree) × (content : Option Value) × (block.made ≡ ForObject declared) × (block.is_alive ≡ true)
    × (content_at block.cells path ≡ Some content) × Fits blocks value declared

-- the move leads from the world before to the one after
abbrev pub Moves : SyntaxTree → World → Move → World → Type 0
Moves unit before (Start function) after = Starts before (body_at function (external_parts unit)) after
Moves unit before (Step activity) after =
    (control : Control) × (slice_get before.activities activity ≡ Some control) × Takes before activity (step (bindings_in unit) before.blocks control) after
Moves unit before (Write number path value) after =
    (block : Block) × (slice_get before.blocks number ≡ Some block) × IsWritable before.blocks block path value
    × (after ≡ record before { blocks = slice_set before.blocks number (block_with block path value) })

-- these moves, the last one first, lead from the opening world to this one
abbrev pub Runs : SyntaxTree → List Move → World → Type 0
Runs unit [] world = world ≡ opening unit
Runs unit (move ∷ earlier) world = (before : World) × Runs unit earlier before × Moves unit before move world

-- no run meets a fault: no activity's next step is one, in any world that a run reaches
abbrev pub IsSafe : SyntaxTree → Type 0
IsSafe unit =
    (moves : List Move) (world : World) → Runs unit moves world
    → (activity : ℕ) (control : Control) → slice_get world.activities activity ≡ Some control
    → (kind : FaultKind) (token : ℕ) → step (bindings_in unit) world.blocks control ≢ Fault kind token
