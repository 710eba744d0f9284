-- The plain program beside the runs: it plays a list of moves, in the order in which they are made.
use Rattle.std.specs.Prelude.{ℕ, Bool, true, false, ◌&&◌, List, [], ◌∷◌, ◌++◌, Option, Some, None, option_map, int_le, nat_eq, nat_le, slice_get, slice_set, if◌then◌else◌}
use Rattle.std.specs.Option.{option_and_then}
use Rattle.meaning_types.specs.Types.{TypeTree, Typed, BaseTree, IntegerTree, PointerTree}
use Rattle.meaning_types.specs.Ranges.{least, greatest}
use Rattle.meaning_types.specs.Equality.{are_equal_kinds, are_same}
use Rattle.meaning_tree.specs.Trees.{SyntaxTree, external_parts}
use Rattle.meaning_machine.specs.Values.{Spot, Null, Foreign, In, Value, Integer, Pointer, Made, ForObject, ForFunction, Block}
use Rattle.meaning_machine.specs.Memory.{content_at, block_with}
use Rattle.meaning_machine.specs.Code.{ValueCode}
use Rattle.meaning_machine.specs.Machine.{EnterBody, Finished, Outcome, Next, Done, Undefined, Fault, step}
use Rattle.meaning_machine.specs.Runs.{World, opening, Move, Start, Step, Write, body_at, bindings_in}

-- Tests that a value fits

-- the block is made for one object of this type, but for const and volatile
abbrev pub is_element : Made → List ℕ → ℕ → TypeTree → Bool
is_element (ForObject declared) [] count type_ = nat_eq count 1 && are_same declared type_
is_element (ForObject declared) (_ ∷ _) count type_ = false
is_element ForFunction path count type_ = false

-- the block is there, and a pointer to this type may point to its element, or just behind it
abbrev pub block_fits_now : Option Block → List ℕ → ℕ → ℕ → TypeTree → Bool
block_fits_now (Some block) path index length target = is_element block.made path length target && nat_le index length
block_fits_now None path index length target = false

-- a pointer to this type may point there
abbrev pub spot_fits_now : List Block → Spot → TypeTree → Bool
spot_fits_now blocks Null target = true
spot_fits_now blocks Foreign target = true
spot_fits_now blocks (In block path index length) target = block_fits_now (slice_get blocks block) path index length target

-- the value fits a type with this base
abbrev pub value_fits_now : List Block → Value → BaseTree → Bool
value_fits_now blocks (Integer kind None false number) (IntegerTree wanted) =
    are_equal_kinds kind wanted && int_le (least kind) number && int_le number (greatest kind)
value_fits_now blocks (Pointer target spot) (PointerTree wanted) = are_same target wanted && spot_fits_now blocks spot wanted
value_fits_now blocks value base = false

-- the value fits the type
abbrev pub fits_now : List Block → Value → TypeTree → Bool
fits_now blocks value (Typed base qualifiers flags) = value_fits_now blocks value base

-- the value fits what the block is made for
abbrev pub made_fits_now : List Block → Value → Made → Bool
made_fits_now blocks value (ForObject declared) = fits_now blocks value declared
made_fits_now blocks value ForFunction = false

-- there is a cell
abbrev pub has_content : Option (Option Value) → Bool
has_content (Some content) = true
has_content None = false

-- the block is alive, and has a cell at the path that the value fits
abbrev pub is_writable_now : List Block → Block → List ℕ → Value → Bool
is_writable_now blocks block path value =
    block.is_alive && has_content (content_at block.cells path) && made_fits_now blocks value block.made

-- Moves, where they are possible

-- a new activity runs these statements, if there is such a body
abbrev pub started : World → Option (List ValueCode) → Option World
started before None = None
started before (Some statements) = Some (record before { activities = before.activities ++ EnterBody statements ∷ [] })

-- an activity's step has this outcome
abbrev pub taken : World → ℕ → Outcome → Option World
taken before activity (Next blocks control) =
    Some (record { blocks = blocks; activities = slice_set before.activities activity control })
taken before activity Done = Some (record before { activities = slice_set before.activities activity Finished })
taken before activity (Undefined reason token) = None
taken before activity (Fault kind token) = None

-- the outcome of an activity's next step
abbrev pub outcome_of : SyntaxTree → World → ℕ → Option Outcome
outcome_of unit world activity = option_map (step (bindings_in unit) world.blocks) (slice_get world.activities activity)

-- the outside writes a value that fits into a cell of the block
abbrev pub written_if : World → ℕ → List ℕ → Value → Option Block → Option World
written_if before number path value None = None
written_if before number path value (Some block) =
    if is_writable_now before.blocks block path value
    then Some (record before { blocks = slice_set before.blocks number (block_with block path value) })
    else None

-- the world behind one move
abbrev pub moved_to : SyntaxTree → World → Move → Option World
moved_to unit before (Start function) = started before (body_at function (external_parts unit))
moved_to unit before (Step activity) = option_and_then (taken before activity) (outcome_of unit before activity)
moved_to unit before (Write number path value) = written_if before number path value (slice_get before.blocks number)

-- the world behind these moves, the first one first
abbrev pub played_from : SyntaxTree → List Move → World → Option World
played_from unit [] world = Some world
played_from unit (move ∷ moves) world = option_and_then (played_from unit moves) (moved_to unit world move)

-- from the opening world
abbrev pub played : SyntaxTree → List Move → Option World
played unit moves = played_from unit moves (opening unit)

-- the moves with the last one first, before others
abbrev pub onto : List Move → List Move → List Move
onto [] earlier = earlier
onto (move ∷ moves) earlier = onto moves (move ∷ earlier)
