-- Whatever world is reached, functions can be called, activities go on, and values can be written.
use Rattle.std.proofs.Common.{◌≡◌, ℕ, zero, suc, ◌+◌, Bool, true, false, List, [], ◌∷◌, ◌++◌, Option, Some, None, map, option_map, length, slice_get, slice_set, if◌then◌else◌, refl, sym, ap, ◌∙◌, subst}
use Rattle.std.specs.Str.{bytes_eq}
use Rattle.std.proofs.lemmas.Bool.{false≢true}
use Rattle.std.proofs.lemmas.Option.{slice_get-map}
use Rattle.meaning_types.specs.Types.{TypeTree}
use Rattle.vocabulary.specs.declared.role.Role.TheVariants.{Evaluated}
use Rattle.meaning_tree.specs.Trees.{SyntaxTree, parts_of, external_parts}
use Rattle.meaning_syntax.specs.Items.{Word, Statement, Item, Object, Function, item_spelled}
use Rattle.meaning_syntax.specs.Trees.{statement_trees, item_trees, unit_tree}
use Rattle.meaning_first_rules.specs.Typing.{declared_type}
use Rattle.meaning_first_rules.specs.Placed.{item_binding}
use Rattle.meaning_machine.specs.Values.{Value, ForObject, Cell, Block, Fits}
use Rattle.meaning_machine.specs.Memory.{content_at, with_content, block_with}
use Rattle.meaning_machine.specs.Code.{ValueCode, statement_code, statements_code}
use Rattle.meaning_machine.specs.Machine.{EnterBody, Next, Done, Outcome}
use Rattle.meaning_machine.specs.Runs.{World, opening, opening_block, Move, Write, Starts, Takes, Moves, Runs, body_at}
use Rattle.meaning_machine.specs.plain.Playing.{has_content}
use Rattle.meaning_machine.specs.laws.Runs.{RunsBegin, FunctionsStart, ActivitiesGoOn, ActivitiesEnd, Holds, ObjectsAreWritten}
use Rattle.meaning_machine.proofs.Lasting.{Stay, stay-same, blocks_stay}
use Rattle.meaning_machine.proofs.WellTyped.{bindings_among-items}

pub runs_begin : RunsBegin
runs_begin unit = refl

-- Calls

-- the code of statements, one by one
statements_code-map : (statements : List SyntaxTree) → statements_code (parts_of Evaluated statements) ≡ map statement_code statements
statements_code-map [] = refl
statements_code-map (statement ∷ statements) = ap (λ others. statement_code statement ∷ others) (statements_code-map statements)

-- the body of a function among items
body_at-function :
    (first : ℕ) (items : List Item) (number : ℕ) (name : List ℕ) (statements : List Statement) → slice_get items number ≡ Some (Function name statements)
    → (begin : ℕ) × (body_at number (parts_of Evaluated (item_trees first items)) ≡ Some (map statement_code (statement_trees begin statements)))
body_at-function first [] number name statements there = cc there
body_at-function first (Object words stars other ∷ items) zero name statements there = cc there
body_at-function first (Function other others ∷ items) zero name statements there =
    let same : others ≡ statements = cc there in
    (first + 6, ap Some (statements_code-map (statement_trees (first + 6) others) ∙ ap (λ all. map statement_code (statement_trees (first + 6) all)) same))
body_at-function first (item ∷ items) (suc number) name statements there =
    body_at-function (first + length (item_spelled item)) items number name statements there

-- a function with a body starts
starts-body : (world : World) (body : Option (List ValueCode)) (statements : List ValueCode) → body ≡ Some statements
    → Starts world body (record world { activities = world.activities ++ EnterBody statements ∷ [] })
starts-body world body statements is = rw is refl

pub functions_start : FunctionsStart
functions_start unit form moves world run number name statements there =
    let (first, is) = body_at-function 0 form.items number name statements there in (
      first,
      starts-body world (body_at number (external_parts unit)) (map statement_code (statement_trees first statements))
          (ap (λ tree. body_at number (external_parts tree)) form.is_tree ∙ is),
    )

-- Steps

takes-next : (world : World) (activity : ℕ) (outcome : Outcome) (after : World) → Takes world activity outcome after
    → (other : Outcome) → other ≡ outcome → Takes world activity other after
takes-next world activity outcome after takes other same = subst (λ o. Takes world activity o after) (sym same) takes

pub activities_go_on : ActivitiesGoOn
activities_go_on unit world activity control next blocks there is =
    (control, there, takes-next world activity (Next blocks next) _ refl _ is)

pub activities_end : ActivitiesEnd
activities_end unit world activity control there is = (control, there, takes-next world activity Done _ refl _ is)

-- Writes

-- blocks that stay from world to world stay
stay-further : (before between after : List Block) → Stay before between → Stay between after → Stay before after
stay-further before between after one other number block there =
    let (middle, found, made, alive, cells) = one number block there in
    let (later, found_later, made_later, alive_later, cells_later) = other number middle found in
    (later, found_later, made_later ∙ made, alive_later ∙ alive, λ path has. cells_later path (cells path has))

-- blocks of the opening world stay in each world that is reached
run-Stay : (unit : SyntaxTree) (moves : List Move) (world : World) → Runs unit moves world → Stay (opening unit).blocks world.blocks
run-Stay unit [] world run = rw run (stay-same (opening unit).blocks)
run-Stay unit (move ∷ earlier) world (before, run, moves) =
    stay-further (opening unit).blocks before.blocks world.blocks (run-Stay unit earlier before run) (blocks_stay unit before world move moves)

-- an object of the unit has a block at the opening
opening-object :
    (items : List Item) (number : ℕ) (words : List Word) (stars : ℕ) (name : List ℕ) → slice_get items number ≡ Some (Object words stars name)
    → slice_get (opening (unit_tree items)).blocks number ≡ Some (opening_block (Some (declared_type (record { words = words; stars = stars }))))
opening-object items number words stars name there =
    ap (λ scope. slice_get (map (λ binding. opening_block binding.object) scope) number) (bindings_among-items 0 items)
    ∙ slice_get-map (λ binding. opening_block binding.object) (map item_binding items) number
    ∙ ap (option_map (λ binding. opening_block binding.object)) (slice_get-map item_binding items number ∙ ap (option_map item_binding) there)

-- content that is found
found-content : (found : Option (Option Value)) → has_content found ≡ true → (content : Option Value) × (found ≡ Some content)
found-content (Some content) has = (content, refl)
found-content None has = absurd (false≢true has)

-- what was written into a cell is found there
reads-hit : (is_hit : Bool) (cell : Cell) (cells : List Cell) (path : List ℕ) (value : Value) → bytes_eq cell.path path ≡ is_hit
    → (has_content (content_at cells path) ≡ true → content_at (with_content cells path value) path ≡ Some (Some value))
    → has_content (if is_hit then Some cell.content else content_at cells path) ≡ true
    → content_at (if is_hit then record cell { content = Some value } ∷ cells else cell ∷ with_content cells path value) path ≡ Some (Some value)
reads-hit true cell cells path value is behind has = rw is refl
reads-hit false cell cells path value is behind has = rw is (behind has)

reads-written : (cells : List Cell) (path : List ℕ) (value : Value) → has_content (content_at cells path) ≡ true
    → content_at (with_content cells path value) path ≡ Some (Some value)
reads-written [] path value has = absurd (false≢true has)
reads-written (cell ∷ cells) path value has =
    reads-hit (bytes_eq cell.path path) cell cells path value refl (reads-written cells path value) has

-- a block that was set is found
found-set : {X : Type 0} (xs : List X) (number : ℕ) (x y : X) → slice_get xs number ≡ Some x → slice_get (slice_set xs number y) number ≡ Some y
found-set [] number x y there = cc there
found-set (z ∷ xs) zero x y there = refl
found-set (z ∷ xs) (suc number) x y there = found-set xs number x y there

-- a write of a value that fits, into a living block with a cell for it
writes-block :
    (unit : SyntaxTree) (world : World) (number : ℕ) (block : Block) (path : List ℕ) (value : Value) (declared : TypeTree)
    → slice_get world.blocks number ≡ Some block → block.made ≡ ForObject declared → block.is_alive ≡ true
    → has_content (content_at block.cells path) ≡ true → Fits world.blocks value declared
    → (after : World) × Moves unit world (Write number path value) after × Holds after number path value
writes-block unit world number block path value declared there made alive has fits =
    let (content, found) = found-content (content_at block.cells path) has in (
      record world { blocks = slice_set world.blocks number (block_with block path value) },
      (block, there, (declared, content, made, alive, found, fits), refl),
      (block_with block path value, found-set world.blocks number block (block_with block path value) there, alive, reads-written block.cells path value has),
    )

pub objects_are_written : ObjectsAreWritten
objects_are_written unit form moves world run number words stars name there value fits =
    let declared : TypeTree = declared_type (record { words = words; stars = stars }) in
    let begins : slice_get (opening unit).blocks number ≡ Some (opening_block (Some declared)) =
    ap (λ tree. slice_get (opening tree).blocks number) form.is_tree ∙ opening-object form.items number words stars name there
    in
    let (block, found, made, alive, cells) = run-Stay unit moves world run number (opening_block (Some declared)) begins in
    writes-block unit world number block [] value declared found made alive (cells [] refl) fits
