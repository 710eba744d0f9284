-- In the first form each block keeps what it is made for, its life and its cells; so dead ones stay dead.
use Rattle.std.proofs.Common.{◌≡◌, ℕ, zero, suc, Bool, true, false, List, [], ◌∷◌, Option, Some, None, slice_get, slice_set, nat_lt, if◌then◌else◌, refl, sym, ap, subst, ◌∙◌}
use Rattle.std.specs.Str.{bytes_eq}
use Rattle.meaning_types.specs.Types.{flags_of, has_flag}
use Rattle.meaning_tree.specs.Trees.{SyntaxTree, external_parts}
use Rattle.meaning_first_rules.specs.Bindings.{Binding}
use Rattle.meaning_machine.specs.Values.{Value, Integer, Pointer, Spot, Null, Foreign, In, Lvalue, Cell, Block}
use Rattle.meaning_machine.specs.Outcomes.{DeadBlock, OutOfBounds, ReadOnly, FaultKind, AccessFault, Answer, Gives, IsFault, IsUndefined}
use Rattle.meaning_machine.specs.Memory.{adopt, load, store, store_block, content_at, with_content, block_with, is_read_only}
use Rattle.meaning_machine.specs.Code.{LvalueCode, Named, Behind, NoLvalue, ValueCode}
use Rattle.meaning_machine.specs.Machine.{AfterLvalue, AfterValue, Control, EnterBody, EnterStatement, EnterLvalue, EnterAddress, EnterAssignment, Load, Move, Store, Leave, Finished, Outcome, Next, Done, Undefined, Fault, lvalue_of, entered_name, loaded, moved, written, adopted, step}
use Rattle.meaning_machine.specs.Runs.{World, Moves, Start, Step, Write, Starts, Takes, body_at, bindings_in}
use Rattle.meaning_machine.specs.Runs as runs
use Rattle.meaning_machine.specs.plain.Playing.{has_content}
use Rattle.meaning_machine.specs.laws.Runs.{BlocksLast}

-- The blocks stay: those that there are keep what they are made for, their lives and their cells.
abbrev pub Stay : List Block → List Block → Type 0
Stay before after =
    (number : ℕ) (block : Block) → slice_get before number ≡ Some block
    → (later : Block) × (slice_get after number ≡ Some later) × (later.made ≡ block.made) × (later.is_alive ≡ block.is_alive)
    × ((path : List ℕ) → has_content (content_at block.cells path) ≡ true → has_content (content_at later.cells path) ≡ true)

-- blocks that are the same
pub stay-same : (blocks : List Block) → Stay blocks blocks
stay-same blocks number block e = (block, e, refl, refl, λ path has. has)

-- what is found in a cell or behind it is found where the cell was written, or may have been, too
has-found :
    (is_hit is_here : Bool) (content : Option Value) (value : Value) (rest later : Option (Option Value))
    → (has_content rest ≡ true → has_content later ≡ true)
    → has_content (if is_here then Some content else rest) ≡ true
    → has_content (if is_here then Some (if is_hit then Some value else content) else (if is_hit then rest else later)) ≡ true
has-found is_hit true content value rest later behind has = refl
has-found true false content value rest later behind has = has
has-found false false content value rest later behind has = behind has

-- of cells of which the first is written or not
has-cells :
    (is_hit : Bool) (cell : Cell) (cells : List Cell) (path other : List ℕ) (value : Value)
    → (has_content (content_at cells other) ≡ true → has_content (content_at (with_content cells path value) other) ≡ true)
    → has_content (content_at (cell ∷ cells) other) ≡ true
    → has_content (content_at (if is_hit then record cell { content = Some value } ∷ cells else cell ∷ with_content cells path value) other) ≡ true
has-cells true cell cells path other value =
    has-found true (bytes_eq cell.path other) cell.content value (content_at cells other) (content_at (with_content cells path value) other)
has-cells false cell cells path other value =
    has-found false (bytes_eq cell.path other) cell.content value (content_at cells other) (content_at (with_content cells path value) other)

-- a write leaves each cell
has-written :
    (cells : List Cell) (path other : List ℕ) (value : Value) → has_content (content_at cells other) ≡ true
    → has_content (content_at (with_content cells path value) other) ≡ true
has-written [] path other value has = has
has-written (cell ∷ cells) path other value has =
    has-cells (bytes_eq cell.path path) cell cells path other value (has-written cells path other value) has

-- a block into which a value is written stays as the block that it equals
stay-block :
    (block one : Block) (path : List ℕ) (value : Value) → block ≡ one
    → ((block_with block path value).made ≡ one.made) × ((block_with block path value).is_alive ≡ one.is_alive)
    × ((other : List ℕ) → has_content (content_at one.cells other) ≡ true → has_content (content_at (block_with block path value).cells other) ≡ true)
stay-block block one path value same =
    subst
    (λ b. (block.made ≡ b.made) × (block.is_alive ≡ b.is_alive)
    × ((other : List ℕ) → has_content (content_at b.cells other) ≡ true → has_content (content_at (with_content block.cells path value) other) ≡ true))
    same (refl, refl, λ other. has-written block.cells path other value)

-- a block into which a value is written
stay-written :
    (blocks : List Block) (number : ℕ) (block : Block) (path : List ℕ) (value : Value) → slice_get blocks number ≡ Some block →
    Stay blocks (slice_set blocks number (block_with block path value))
stay-written [] number block path value there k one e = cc e
stay-written (first ∷ blocks) zero block path value there zero one e =
    let same : block ≡ one = cc (there, e) in
    let (made, alive, cells) = stay-block block one path value same in
    (block_with block path value, refl, made, alive, cells)
stay-written (first ∷ blocks) zero block path value there (suc k) one e = stay-same blocks k one e
stay-written (first ∷ blocks) (suc number) block path value there zero one e =
    let same : one ≡ first = cc e in (first, refl, ap (λ b. b.made) (sym same), ap (λ b. b.is_alive) (sym same), λ path has. subst (λ b. has_content (content_at b.cells path) ≡ true) same has)
stay-written (first ∷ blocks) (suc number) block path value there (suc k) one e = stay-written blocks number block path value there k one e

-- the blocks of an answer, if it has some
abbrev StayInAnswer : List Block → Answer (List Block) → Type 0
StayInAnswer before (Gives after) = Stay before after
StayInAnswer before (IsFault kind) = Unit {0}
StayInAnswer before (IsUndefined reason) = Unit {0}

-- and of an outcome
abbrev StayInOutcome : List Block → Outcome → Type 0
StayInOutcome before (Next after control) = Stay before after
StayInOutcome before Done = Unit {0}
StayInOutcome before (Undefined reason token) = Unit {0}
StayInOutcome before (Fault kind token) = Unit {0}

-- Stores

-- behind the tests of a store
stay-tested : (blocks : List Block) (number : ℕ) (block : Block) (path : List ℕ) (value : Value) → slice_get blocks number ≡ Some block →
    (is_alive is_inside is_constant : Bool) →
    StayInAnswer blocks (if is_alive
    then (if is_inside then (if is_constant then IsUndefined ReadOnly else Gives (slice_set blocks number (block_with block path value)))
    else IsUndefined OutOfBounds) else IsUndefined DeadBlock)
stay-tested blocks number block path value there false is_inside is_constant = tt
stay-tested blocks number block path value there true false is_constant = tt
stay-tested blocks number block path value there true true true = tt
stay-tested blocks number block path value there true true false = stay-written blocks number block path value there

-- a store into a block that is looked up
stay-stored_block :
    (blocks : List Block) (number : ℕ) (found : Option Block) (path : List ℕ) (index length : ℕ) (value : Value) → slice_get blocks number ≡ found →
    StayInAnswer blocks (store_block blocks number found path index length value)
stay-stored_block blocks number None path index length value there = tt
stay-stored_block blocks number (Some block) path index length value there =
    stay-tested blocks number block path value there block.is_alive (nat_lt index length) (is_read_only block.made)

-- a store anywhere
stay-stored : (blocks : List Block) (spot : Spot) (value : Value) → StayInAnswer blocks (store blocks spot value)
stay-stored blocks Null value = tt
stay-stored blocks Foreign value = tt
stay-stored blocks (In number path index length) value = stay-stored_block blocks number (slice_get blocks number) path index length value refl

-- Steps

-- the written value goes on
stay-written_answer :
    (blocks : List Block) (value : Value) (lvalue_token : ℕ) (after : AfterValue) (answer : Answer (List Block)) → StayInAnswer blocks answer
    → StayInOutcome blocks (written value lvalue_token after answer)
stay-written_answer blocks value lvalue_token after (Gives later) stay = stay
stay-written_answer blocks value lvalue_token after (IsFault kind) stay = tt
stay-written_answer blocks value lvalue_token after (IsUndefined reason) stay = tt

-- an adopted value is written
stay-adopted :
    (blocks : List Block) (place : Lvalue) (lvalue_token token : ℕ) (after : AfterValue) (answer : Answer Value)
    → StayInOutcome blocks (adopted blocks place lvalue_token token after answer)
stay-adopted blocks place lvalue_token token after (Gives value) =
    stay-written_answer blocks value lvalue_token after (store blocks place.spot value) (stay-stored blocks place.spot value)
stay-adopted blocks place lvalue_token token after (IsFault kind) = tt
stay-adopted blocks place lvalue_token token after (IsUndefined reason) = tt

-- a flag ends the step before
stay-flagged :
    (blocks : List Block) (outcome : Outcome) (kind : FaultKind) (token : ℕ) (has : Bool) → StayInOutcome blocks outcome
    → StayInOutcome blocks (if has then Fault kind token else outcome)
stay-flagged blocks outcome kind token true stay = tt
stay-flagged blocks outcome kind token false stay = stay

-- a load changes nothing
stay-loaded : (blocks : List Block) (token : ℕ) (after : AfterValue) (answer : Answer Value) → StayInOutcome blocks (loaded blocks token after answer)
stay-loaded blocks token after (Gives value) = stay-same blocks
stay-loaded blocks token after (IsFault kind) = tt
stay-loaded blocks token after (IsUndefined reason) = tt

-- nor does a move
stay-moved : (blocks : List Block) (value : Value) (token : ℕ) (after : AfterLvalue) → StayInOutcome blocks (moved blocks value token after)
stay-moved blocks (Pointer target spot) token after = stay-same blocks
stay-moved blocks (Integer kind restricted fouled number) token after = tt

-- nor does the place of a name
stay-entered : (blocks : List Block) (token : ℕ) (found : Option Lvalue) (after : AfterLvalue) → StayInOutcome blocks (entered_name blocks token found after)
stay-entered blocks token None after = tt
stay-entered blocks token (Some place) after = stay-same blocks

-- nor that of a node
stay-entered_lvalue :
    (scope : List Binding) (blocks : List Block) (place : LvalueCode) (after : AfterLvalue) → StayInOutcome blocks (step scope blocks (EnterLvalue place after))
stay-entered_lvalue scope blocks (Named token name) after = stay-entered blocks token (lvalue_of scope name) after
stay-entered_lvalue scope blocks (Behind token pointer) after = stay-same blocks
stay-entered_lvalue scope blocks (NoLvalue token) after = tt

-- a store alone changes blocks
stay-step : (scope : List Binding) (blocks : List Block) (control : Control) → StayInOutcome blocks (step scope blocks control)
stay-step scope blocks (EnterBody statements) = stay-same blocks
stay-step scope blocks (EnterStatement statement statements) = stay-same blocks
stay-step scope blocks (EnterLvalue place after) = stay-entered_lvalue scope blocks place after
stay-step scope blocks (EnterAddress place after) = stay-same blocks
stay-step scope blocks (EnterAssignment token left right after) = stay-same blocks
stay-step scope blocks (Load place token after) = stay-loaded blocks token after (load blocks place)
stay-step scope blocks (Move value token after) = stay-moved blocks value token after
stay-step scope blocks (Store place lvalue_token value token after) =
    stay-flagged blocks (adopted blocks place lvalue_token token after (adopt value place.type_)) AccessFault lvalue_token (has_flag (flags_of place.type_))
    (stay-adopted blocks place lvalue_token token after (adopt value place.type_))
stay-step scope blocks Leave = tt
stay-step scope blocks Finished = tt

-- Moves

-- an activity takes a step
stay-takes :
    (before after : World) (activity : ℕ) (outcome : Outcome) → StayInOutcome before.blocks outcome → Takes before activity outcome after
    → Stay before.blocks after.blocks
stay-takes before after activity (Next blocks control) stay takes = rw takes stay
stay-takes before after activity Done stay takes = rw takes (stay-same before.blocks)
stay-takes before after activity (Undefined reason token) stay takes = absurd takes
stay-takes before after activity (Fault kind token) stay takes = absurd takes

-- a function starts
stay-starts : (before after : World) (body : Option (List ValueCode)) → Starts before body after → Stay before.blocks after.blocks
stay-starts before after None starts = absurd starts
stay-starts before after (Some statements) starts = rw starts (stay-same before.blocks)

-- blocks stay in each move
pub blocks_stay : (unit : SyntaxTree) (before after : World) (move : runs.Move) → Moves unit before move after → Stay before.blocks after.blocks
blocks_stay unit before after (Start function) moves = stay-starts before after (body_at function (external_parts unit)) moves
blocks_stay unit before after (Step activity) moves =
    stay-takes before after activity (step (bindings_in unit) before.blocks moves.0) (stay-step (bindings_in unit) before.blocks moves.0) moves.2
blocks_stay unit before after (Write number path value) moves =
    rw moves.3 (stay-written before.blocks number moves.0 path value moves.1)

-- so they outlast it
pub blocks_last : BlocksLast
blocks_last unit before after move moves number block e =
    let (later, there, made, alive, cells) = blocks_stay unit before after move moves number block e in
    (later, there, made, λ dead. alive ∙ dead)
