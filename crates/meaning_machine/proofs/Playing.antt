-- What the plain program plays is a run.
use Rattle.std.proofs.Common.{◌≡◌, ℕ, Bool, true, false, ℤ, ◌≤ℤ◌, List, [], ◌∷◌, Option, Some, None, refl, sym, subst}
use Rattle.std.specs.Prelude.{option_map, int_le, slice_get, slice_set, T, if◌then◌else◌}
use Rattle.std.specs.Option.{option_and_then}
use Rattle.std.specs.Int.Signed.{le_z_yes}
use Rattle.std.proofs.lemmas.Bool.{and_parts, false≢true, eqb-true, leb-true}
use Rattle.std.proofs.lemmas.Option.{none-some, same_Some}
use Rattle.meaning_types.specs.Types.{TypeTree, Typed, BaseTree, IntegerTree, PointerTree}
use Rattle.meaning_tree.specs.Trees.{SyntaxTree, external_parts}
use Rattle.meaning_types.proofs.Equality.{are_equal_kinds-Decides, are_same-Decides}
use Rattle.meaning_machine.specs.Values.{Spot, Null, Foreign, In, Value, Integer, Pointer, Made, ForObject, ForFunction, Block, HasElements, SpotFits, ValueFits, Fits}
use Rattle.meaning_machine.specs.Memory.{content_at, block_with}
use Rattle.meaning_machine.specs.Code.{ValueCode}
use Rattle.meaning_machine.specs.Machine.{Control, Outcome, Next, Done, Undefined, Fault, step}
use Rattle.meaning_machine.specs.Outcomes.{FaultKind}
use Rattle.meaning_machine.specs.Runs.{World, opening, Move, Start, Step, Write, Runs, IsSafe, Moves, Starts, Takes, IsWritable, body_at, bindings_in}
use Rattle.meaning_machine.specs.laws.Playing.{PlayedIsRun, FaultsAreUnsafe}
use Rattle.meaning_machine.specs.plain.Playing.{is_element, block_fits_now, spot_fits_now, value_fits_now, fits_now, made_fits_now, has_content, is_writable_now, started, taken, written_if, moved_to, played_from, onto}

-- Tests say what the relations say

-- numbers that pass the test are in order
in_order : (a b : ℤ) → int_le a b ≡ true → a ≤ℤ b
in_order a b passed = le_z_yes (subst T (sym passed) tt)

-- of a pointer to an element
element-fits : (block : Block) (made : Made) → block.made ≡ made → (path : List ℕ) (count : ℕ) (type_ : TypeTree)
    → is_element made path count type_ ≡ true → HasElements block path count type_
element-fits block (ForObject declared) is [] count type_ passed =
    let parts = and_parts _ _ passed in
    (declared, is, refl, eqb-true _ _ parts.0, (are_same-Decides declared type_).0 parts.1)
element-fits block (ForObject declared) is (_ ∷ _) count type_ passed = absurd (false≢true passed)
element-fits block ForFunction is path count type_ passed = absurd (false≢true passed)

-- of a pointer into a block
block-fits : (blocks : List Block) (number : ℕ) (found : Option Block) → slice_get blocks number ≡ found
    → (path : List ℕ) (index count : ℕ) (target : TypeTree) → block_fits_now found path index count target ≡ true
    → SpotFits blocks (In number path index count) target
block-fits blocks number (Some block) is path index count target passed =
    let parts = and_parts _ _ passed in
    (block, is, element-fits block block.made refl path count target parts.0, leb-true _ _ parts.1)
block-fits blocks number None is path index count target passed = absurd (false≢true passed)

-- of any pointer
spot-fits : (blocks : List Block) (spot : Spot) (target : TypeTree) → spot_fits_now blocks spot target ≡ true → SpotFits blocks spot target
spot-fits blocks Null target passed = tt
spot-fits blocks Foreign target passed = tt
spot-fits blocks (In number path index count) target passed = block-fits blocks number _ refl path index count target passed

-- of a value, at a base
value-fits : (blocks : List Block) (value : Value) (base : BaseTree) → value_fits_now blocks value base ≡ true → ValueFits blocks value base
value-fits blocks (Integer kind None false number) (IntegerTree wanted) passed =
    let parts = and_parts _ _ passed in
    let more = and_parts _ _ parts.0 in
    ((are_equal_kinds-Decides kind wanted).0 more.0, refl, refl, (in_order _ _ more.1, in_order _ _ parts.1))
value-fits blocks (Integer kind None true number) (IntegerTree wanted) passed = absurd (false≢true passed)
value-fits blocks (Integer kind (Some restricted) fouled number) (IntegerTree wanted) passed = absurd (false≢true passed)
value-fits blocks (Integer kind None false number) base passed = absurd (false≢true passed)
value-fits blocks (Integer kind None true number) base passed = absurd (false≢true passed)
value-fits blocks (Integer kind (Some restricted) fouled number) base passed = absurd (false≢true passed)
value-fits blocks (Pointer target spot) (PointerTree wanted) passed =
    let parts = and_parts _ _ passed in
    ((are_same-Decides target wanted).0 parts.0, spot-fits blocks spot wanted parts.1)
value-fits blocks (Pointer target spot) base passed = absurd (false≢true passed)

-- of a value, at a type
fits_now-Fits : (blocks : List Block) (value : Value) (type_ : TypeTree) → fits_now blocks value type_ ≡ true → Fits blocks value type_
fits_now-Fits blocks value (Typed base _ _) passed = value-fits blocks value base passed

-- of a cell, by what its block is made for and what is found there
writable : (blocks : List Block) (block : Block) (made : Made) → block.made ≡ made → (path : List ℕ) (value : Value)
    (found : Option (Option Value)) → content_at block.cells path ≡ found → block.is_alive ≡ true → has_content found ≡ true
    → made_fits_now blocks value made ≡ true → IsWritable blocks block path value
writable blocks block (ForObject declared) made path value (Some content) found alive cell fits =
    (declared, content, made, alive, found, fits_now-Fits blocks value declared fits)
writable blocks block (ForObject declared) made path value None found alive cell fits = absurd (false≢true cell)
writable blocks block ForFunction made path value found is alive cell fits = absurd (false≢true fits)

-- of a cell of a block
is_writable_now-IsWritable : (blocks : List Block) (block : Block) (path : List ℕ) (value : Value)
    → is_writable_now blocks block path value ≡ true → IsWritable blocks block path value
is_writable_now-IsWritable blocks block path value passed =
    let parts = and_parts _ _ passed in
    let more = and_parts _ _ parts.0 in
    writable blocks block _ refl path value _ refl more.0 more.1 parts.1

-- Moves that are played are moves

-- a start
started-Starts : (before : World) (body : Option (List ValueCode)) (after : World) → started before body ≡ Some after → Starts before body after
started-Starts before None after is = none-some _ is
started-Starts before (Some statements) after is = sym (same_Some _ _ is)

-- a step, by its outcome
taken-Takes : (before : World) (activity : ℕ) (outcome : Outcome) (after : World)
    → taken before activity outcome ≡ Some after → Takes before activity outcome after
taken-Takes before activity (Next blocks control) after is = sym (same_Some _ _ is)
taken-Takes before activity Done after is = sym (same_Some _ _ is)
taken-Takes before activity (Undefined reason token) after is = none-some _ is
taken-Takes before activity (Fault kind token) after is = none-some _ is

-- a step, by the activity that is found
stepped : (unit : SyntaxTree) (before : World) (activity : ℕ) (found : Option Control) → slice_get before.activities activity ≡ found
    → (after : World) → option_and_then (taken before activity) (option_map (step (bindings_in unit) before.blocks) found) ≡ Some after
    → Moves unit before (Step activity) after
stepped unit before activity None found after is = absurd (none-some _ is)
stepped unit before activity (Some control) found after is =
    (control, found, taken-Takes before activity (step (bindings_in unit) before.blocks control) after is)

-- a write, by its test
written_block : (before : World) (number : ℕ) (path : List ℕ) (value : Value) (block : Block) (test : Bool)
    → is_writable_now before.blocks block path value ≡ test → (after : World)
    → (if test then Some (record before { blocks = slice_set before.blocks number (block_with block path value) }) else None) ≡ Some after
    → IsWritable before.blocks block path value
    × (after ≡ record before { blocks = slice_set before.blocks number (block_with block path value) })
written_block before number path value block true test after is =
    (is_writable_now-IsWritable before.blocks block path value test, sym (same_Some _ _ is))
written_block before number path value block false test after is = absurd (none-some _ is)

-- a write, by the block that is found
written : (unit : SyntaxTree) (before : World) (number : ℕ) (path : List ℕ) (value : Value) (found : Option Block)
    → slice_get before.blocks number ≡ found → (after : World) → written_if before number path value found ≡ Some after
    → Moves unit before (Write number path value) after
written unit before number path value None found after is = absurd (none-some _ is)
written unit before number path value (Some block) found after is =
    let both = written_block before number path value block _ refl after is in
    (block, found, both.0, both.1)

-- any move
moved_to-Moves : (unit : SyntaxTree) (before : World) (move : Move) (after : World)
    → moved_to unit before move ≡ Some after → Moves unit before move after
moved_to-Moves unit before (Start function) after is = started-Starts before (body_at function (external_parts unit)) after is
moved_to-Moves unit before (Step activity) after is = stepped unit before activity _ refl after is
moved_to-Moves unit before (Write number path value) after is = written unit before number path value _ refl after is

-- Lists of moves

-- the runs that further moves lead to, from what they lead to behind the next world
further : (unit : SyntaxTree) (move : Move) (moves earlier : List Move) (before world : World) → Runs unit earlier before
    → ((after : World) → Runs unit (move ∷ earlier) after → played_from unit moves after ≡ Some world → Runs unit (onto moves (move ∷ earlier)) world)
    → (next : Option World) → moved_to unit before move ≡ next
    → option_and_then (played_from unit moves) next ≡ Some world → Runs unit (onto moves (move ∷ earlier)) world
further unit move moves earlier before world run behind None moved rest = absurd (none-some _ rest)
further unit move moves earlier before world run behind (Some after) moved rest =
    behind after (before, run, moved_to-Moves unit before move after moved) rest

-- what is played behind a run is a run
played_from-Runs : (unit : SyntaxTree) (moves earlier : List Move) (before world : World)
    → Runs unit earlier before → played_from unit moves before ≡ Some world → Runs unit (onto moves earlier) world
played_from-Runs unit [] earlier before world run is = subst (Runs unit earlier) (same_Some _ _ is) run
played_from-Runs unit (move ∷ moves) earlier before world run is =
    further unit move moves earlier before world run (λ after. played_from-Runs unit moves (move ∷ earlier) after world) _ refl is

-- what is played from the opening world is a run
pub played_is_run : PlayedIsRun
played_is_run unit moves world is = played_from-Runs unit moves [] (opening unit) world refl is

-- Faults that runs meet

-- by the activity that is found
unsafe_at : (unit : SyntaxTree) (moves : List Move) (world : World) (activity : ℕ) (kind : FaultKind) (token : ℕ) → Runs unit moves world
    → (found : Option Control) → slice_get world.activities activity ≡ found
    → option_map (step (bindings_in unit) world.blocks) found ≡ Some (Fault kind token) → IsSafe unit → ⊥
unsafe_at unit moves world activity kind token run None found met safe = none-some _ met
unsafe_at unit moves world activity kind token run (Some control) found met safe =
    safe moves world run activity control found kind token (same_Some _ _ met)

pub faults_are_unsafe : FaultsAreUnsafe
faults_are_unsafe unit moves world activity kind token run met safe = unsafe_at unit moves world activity kind token run _ refl met safe
