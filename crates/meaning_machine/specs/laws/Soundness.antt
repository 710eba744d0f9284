-- What stays true in every run of a scope without failures: each value and place that an activity holds fits some
-- type that the rest of its work takes, each node that it has yet to enter has such a type by the typing rules, with
-- no failure in it, and each cell fits its declared type.
use Rattle.std.specs.Prelude.{◌≡◌, ℕ, false, List, Some, All, map, slice_get}
use Rattle.meaning_types.specs.Types.{TypeTree, Typed, flags_of, has_flag, value_type, bare, bare_base}
use Rattle.meaning_first_rules.specs.Bindings.{Binding, pointer_to, type_in}
use Rattle.meaning_first_rules.specs.Expressions.{target_of}
use Rattle.meaning_machine.specs.Values.{Value, Lvalue, ForObject, Block, SpotFits, Fits}
use Rattle.meaning_machine.specs.Memory.{content_at}
use Rattle.meaning_machine.specs.Code.{LvalueCode, Named, Behind, NoLvalue, ValueCode, ValueOf, AddressOf, Assignment}
use Rattle.meaning_machine.specs.Machine.{AfterLvalue, ThenLoad, ThenPoint, ThenAssign, AfterValue, ThenMove, ThenStore, ThenGoOn, Control, EnterBody, EnterStatement, EnterLvalue, EnterAddress, EnterAssignment, Load, Move, Store, Leave, Finished, Outcome, Next, Done, Undefined, Fault}
use Rattle.meaning_machine.specs.Runs.{World, opening_block}

-- Nodes

-- an access to a place of this type breaks no rule
abbrev pub IsUnflagged : TypeTree → Type 0
IsUnflagged type_ = has_flag (flags_of type_) ≡ false

-- a value of the one type can be stored to a place of the other: they are equal but for const and volatile,
-- and for what stands outermost
abbrev pub Agree : TypeTree → TypeTree → Type 0
Agree (Typed base _ _) (Typed other _ _) = bare_base base ≡ bare_base other

-- the node has this type, and no rule fails in it
abbrev mutual
  pub IsLvalue : List Binding → LvalueCode → TypeTree → Type 0
  IsLvalue scope (Named token name) type_ = type_in scope name ≡ Some type_
  IsLvalue scope (Behind token pointer) type_ =
      (pointer_type : TypeTree) × IsValue scope pointer pointer_type × (target_of pointer_type ≡ Some type_)
  IsLvalue scope (NoLvalue token) type_ = ⊥

  pub IsValue : List Binding → ValueCode → TypeTree → Type 0
  IsValue scope (ValueOf place) type_ =
      (place_type : TypeTree) × IsLvalue scope place place_type × IsUnflagged place_type × (type_ ≡ value_type place_type)
  IsValue scope (AddressOf token place) type_ =
      (place_type : TypeTree) × IsLvalue scope place place_type × (type_ ≡ pointer_to place_type)
  IsValue scope (Assignment token left right) type_ =
      (left_type : TypeTree) × (right_type : TypeTree) × IsLvalue scope left left_type × IsUnflagged left_type
      × IsValue scope right right_type × Agree right_type left_type × (type_ ≡ value_type left_type)

abbrev pub IsStatement : List Binding → ValueCode → Type 0
IsStatement scope statement = (type_ : TypeTree) × IsValue scope statement type_

-- Pending values and places. What fits depends on what blocks are made for alone, and this never changes.

abbrev pub first_blocks : List Binding → List Block
first_blocks scope = map (λ binding. opening_block binding.object) scope

-- a place may stand where one of this type is wanted
abbrev pub LvalueFits : List Binding → Lvalue → TypeTree → Type 0
LvalueFits scope place type_ = (bare place.type_ ≡ bare type_) × SpotFits (first_blocks scope) place.spot type_

abbrev pub ValueFitsIn : List Binding → Value → TypeTree → Type 0
ValueFitsIn scope value type_ = Fits (first_blocks scope) value type_

-- a place of this type, or a value, is what the rest of the work takes
abbrev mutual
  pub TakesLvalue : List Binding → TypeTree → AfterLvalue → Type 0
  TakesLvalue scope type_ (ThenLoad token after) = IsUnflagged type_ × TakesValue scope (value_type type_) after
  TakesLvalue scope type_ (ThenPoint after) = TakesValue scope (pointer_to type_) after
  TakesLvalue scope type_ (ThenAssign lvalue_token token right after) =
      (right_type : TypeTree) × IsUnflagged type_ × IsValue scope right right_type × Agree right_type type_
      × TakesValue scope (value_type type_) after

  pub TakesValue : List Binding → TypeTree → AfterValue → Type 0
  TakesValue scope type_ (ThenMove token after) =
      (target : TypeTree) × (target_of type_ ≡ Some target) × TakesLvalue scope target after
  TakesValue scope type_ (ThenStore place lvalue_token token after) =
      (place_type : TypeTree) × LvalueFits scope place place_type × IsUnflagged place_type × Agree type_ place_type
      × TakesValue scope (value_type place_type) after
  TakesValue scope type_ (ThenGoOn statements) = All (IsStatement scope) statements

-- what an activity does next has its types
abbrev pub IsSoundControl : List Binding → Control → Type 0
IsSoundControl scope (EnterBody statements) = All (IsStatement scope) statements
IsSoundControl scope (EnterStatement statement statements) = IsStatement scope statement × All (IsStatement scope) statements
IsSoundControl scope (EnterLvalue place after) = (type_ : TypeTree) × IsLvalue scope place type_ × TakesLvalue scope type_ after
IsSoundControl scope (EnterAddress place after) =
    (type_ : TypeTree) × IsLvalue scope place type_ × TakesValue scope (pointer_to type_) after
IsSoundControl scope (EnterAssignment token left right after) =
    (left_type : TypeTree) × (right_type : TypeTree) × IsLvalue scope left left_type × IsUnflagged left_type
    × IsValue scope right right_type × Agree right_type left_type × TakesValue scope (value_type left_type) after
IsSoundControl scope (Load place token after) =
    (type_ : TypeTree) × LvalueFits scope place type_ × IsUnflagged type_ × TakesValue scope (value_type type_) after
IsSoundControl scope (Move value token after) =
    (type_ : TypeTree) × (target : TypeTree) × ValueFitsIn scope value type_ × (target_of type_ ≡ Some target)
    × TakesLvalue scope target after
IsSoundControl scope (Store place lvalue_token value token after) =
    (place_type : TypeTree) × (type_ : TypeTree) × LvalueFits scope place place_type × IsUnflagged place_type
    × ValueFitsIn scope value type_ × Agree type_ place_type × TakesValue scope (value_type place_type) after
IsSoundControl scope Leave = Unit {0}
IsSoundControl scope Finished = Unit {0}

-- Blocks

-- each cell is indeterminate or fits the declared type
abbrev pub CellsFit : List Binding → Block → Type 0
CellsFit scope block =
    (declared : TypeTree) → block.made ≡ ForObject declared
    → (path : List ℕ) (value : Value) → content_at block.cells path ≡ Some (Some value) → ValueFitsIn scope value declared

-- blocks are made for what they were made for, and their cells fit
abbrev pub AreSoundBlocks : List Binding → List Block → Type 0
AreSoundBlocks scope blocks =
    (map (λ block. block.made) blocks ≡ map (λ block. block.made) (first_blocks scope))
    × ((number : ℕ) (block : Block) → slice_get blocks number ≡ Some block → CellsFit scope block)

-- blocks keep what they are made for, and dead ones stay dead
abbrev pub Last : List Block → List Block → Type 0
Last before after =
    (number : ℕ) (block : Block) → slice_get before number ≡ Some block
    → (later : Block) × (slice_get after number ≡ Some later) × (later.made ≡ block.made) × (block.is_alive ≡ false → later.is_alive ≡ false)

-- a step leads from there to there, or ends; it is no fault
abbrev pub IsSoundOutcome : List Binding → Outcome → Type 0
IsSoundOutcome scope (Next blocks control) = AreSoundBlocks scope blocks × IsSoundControl scope control
IsSoundOutcome scope Done = Unit {0}
IsSoundOutcome scope (Undefined reason token) = Unit {0}
IsSoundOutcome scope (Fault kind token) = ⊥

-- the blocks are sound, and what each activity does next
abbrev pub IsSoundWorld : List Binding → World → Type 0
IsSoundWorld scope world = AreSoundBlocks scope world.blocks × All (IsSoundControl scope) world.activities
