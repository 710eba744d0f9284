-- Each run is played: the tests pass where the relations hold.
use Rattle.std.proofs.Common.{◌≡◌, ℕ, Bool, true, false, ℤ, ◌≤ℤ◌, List, [], ◌∷◌, Option, Some, None, refl, sym, ap, ◌∙◌}
use Rattle.std.specs.Prelude.{int_le, T}
use Rattle.std.specs.Option.{option_and_then}
use Rattle.std.proofs.lemmas.Bool.{and_from, eq-eqb, le-leb}
use Rattle.meaning_types.specs.Types.{TypeTree, Typed, BaseTree, IntegerTree, PointerTree}
use Rattle.meaning_types.proofs.Equality.{are_equal_kinds-Decides, are_same-Decides}
use Rattle.meaning_tree.specs.Trees.{SyntaxTree, external_parts}
use Rattle.meaning_machine.specs.Values.{Spot, Null, Foreign, In, Value, Integer, Pointer, Block, HasElements, SpotFits, ValueFits, Fits}
use Rattle.meaning_machine.specs.Code.{ValueCode}
use Rattle.meaning_machine.specs.Machine.{Outcome, Next, Done, Undefined, Fault, step}
use Rattle.meaning_machine.specs.Runs.{World, Move, Start, Step, Write, Runs, Starts, Takes, IsWritable, body_at, bindings_in}
use Rattle.meaning_machine.specs.laws.Playing.{MovesArePlayed, RunIsPlayed}
use Rattle.meaning_machine.specs.plain.Playing.{is_element, spot_fits_now, value_fits_now, fits_now, is_writable_now, started, taken, played_from, onto}

-- Tests

-- a test that holds is passed
passed : (test : Bool) → T test → test ≡ true
passed true holds = refl
passed false holds = absurd holds

-- numbers that are in order pass the test
passed-order : (a b : ℤ) → a ≤ℤ b → int_le a b ≡ true
passed-order a b order = passed (int_le a b) order.le

-- of a pointer to an element
passed-element :
    (block : Block) (path : List ℕ) (count : ℕ) (type_ : TypeTree) → HasElements block path count type_
    → is_element block.made path count type_ ≡ true
passed-element block path count type_ (declared, made, at, is_one, equal) =
    rw (made, at) (and_from _ _ (eq-eqb count 1 is_one) ((are_same-Decides declared type_).1 equal))

-- of any pointer
passed-spot : (blocks : List Block) (spot : Spot) (target : TypeTree) → SpotFits blocks spot target → spot_fits_now blocks spot target ≡ true
passed-spot blocks Null target fits = refl
passed-spot blocks Foreign target fits = refl
passed-spot blocks (In number path index count) target (block, there, element, within) =
    rw there (and_from _ _ (passed-element block path count target element) (le-leb index count within))

-- of a value, at a base
passed-value : (blocks : List Block) (value : Value) (base : BaseTree) → ValueFits blocks value base → value_fits_now blocks value base ≡ true
passed-value blocks (Integer kind restricted fouled number) (IntegerTree wanted) (equal, plain, clean, within) =
    rw (plain, clean)
    (and_from _ _ (and_from _ _ ((are_equal_kinds-Decides kind wanted).1 equal) (passed-order _ _ within.0)) (passed-order _ _ within.1))
passed-value blocks (Integer kind restricted fouled number) base fits = absurd fits
passed-value blocks (Pointer target spot) (PointerTree wanted) (equal, spot_fits) =
    and_from _ _ ((are_same-Decides target wanted).1 equal) (passed-spot blocks spot wanted spot_fits)
passed-value blocks (Pointer target spot) base fits = absurd fits

-- of a value, at a type
Fits-fits_now : (blocks : List Block) (value : Value) (type_ : TypeTree) → Fits blocks value type_ → fits_now blocks value type_ ≡ true
Fits-fits_now blocks value (Typed base _ _) fits = passed-value blocks value base fits

-- of a cell of a block
IsWritable-is_writable_now :
    (blocks : List Block) (block : Block) (path : List ℕ) (value : Value) → IsWritable blocks block path value
    → is_writable_now blocks block path value ≡ true
IsWritable-is_writable_now blocks block path value (declared, content, made, alive, there, fits) =
    rw (alive, there, made) (Fits-fits_now blocks value declared fits)

-- Moves

-- a start
Starts-started : (before : World) (body : Option (List ValueCode)) (after : World) → Starts before body after → started before body ≡ Some after
Starts-started before None after starts = absurd starts
Starts-started before (Some statements) after starts = ap Some (sym starts)

-- a step, by its outcome
Takes-taken : (before : World) (activity : ℕ) (outcome : Outcome) (after : World) → Takes before activity outcome after → taken before activity outcome ≡ Some after
Takes-taken before activity (Next blocks control) after takes = ap Some (sym takes)
Takes-taken before activity Done after takes = ap Some (sym takes)
Takes-taken before activity (Undefined reason token) after takes = absurd takes
Takes-taken before activity (Fault kind token) after takes = absurd takes

-- any move
pub moves_are_played : MovesArePlayed
moves_are_played unit before (Start function) after moves = Starts-started before (body_at function (external_parts unit)) after moves
moves_are_played unit before (Step activity) after (control, there, takes) =
    rw there (Takes-taken before activity (step (bindings_in unit) before.blocks control) after takes)
moves_are_played unit before (Write number path value) after (block, there, writable, is) =
    rw (there, IsWritable-is_writable_now before.blocks block path value writable) (ap Some (sym is))

-- Lists of moves

-- a run that goes on with these moves leads to a world from which they are played
abbrev PlaysOn : SyntaxTree → List Move → List Move → World → Type 0
PlaysOn unit moves earlier world = (before : World) × Runs unit earlier before × (played_from unit moves before ≡ Some world)

run-PlaysOn : (unit : SyntaxTree) (moves earlier : List Move) (world : World) → Runs unit (onto moves earlier) world → PlaysOn unit moves earlier world
run-PlaysOn unit [] earlier world run = (world, run, refl)
run-PlaysOn unit (move ∷ moves) earlier world run =
    let (after, (before, first, moves_on), rest) = run-PlaysOn unit moves (move ∷ earlier) world run in
    (before, first, ap (option_and_then (played_from unit moves)) (moves_are_played unit before move after moves_on) ∙ rest)

-- a run is played from the opening world
pub run_is_played : RunIsPlayed
run_is_played unit moves world run =
    let (before, is_opening, rest) = run-PlaysOn unit moves [] world run in
    ap (played_from unit moves) (sym is_opening) ∙ rest
