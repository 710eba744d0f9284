-- The machine: one step is one row. It takes the types of operands from the values, and of names alone from
-- their declarations.
use Rattle.std.specs.Prelude.{ℕ, ◌+◌, List, [], ◌∷◌, Option, Some, None, if◌then◌else◌}
use Rattle.std.specs.Str.{bytes_eq}
use Rattle.meaning_types.specs.Types.{TypeTree, flags_of, has_flag}
use Rattle.meaning_first_rules.specs.Bindings.{Binding}
use Rattle.meaning_machine.specs.Values.{In, Value, Integer, Pointer, Lvalue, Block}
use Rattle.meaning_machine.specs.Outcomes.{Reason, FaultKind, AccessFault, ShapeFault, Answer, Gives, IsFault, IsUndefined}
use Rattle.meaning_machine.specs.Memory.{adopt, load, store}
use Rattle.meaning_machine.specs.Code.{LvalueCode, Named, Behind, NoLvalue, ValueCode, ValueOf, AddressOf, Assignment, lvalue_token}

-- What remains to be done with a place, or with a value, innermost first
mutual
  -- what a place is wanted for
  pub data AfterLvalue : Type 0 where
    -- it is loaded, at this token
    ThenLoad : (token : ℕ) → AfterValue → AfterLvalue
    -- a pointer to it is the value
    ThenPoint : AfterValue → AfterLvalue
    -- it is assigned to, at the `=`, the value of the right side
    ThenAssign : (lvalue_token token : ℕ) (right : ValueCode) → AfterValue → AfterLvalue

  -- what a value is wanted for
  pub data AfterValue : Type 0 where
    -- it points to the place that is wanted, at the `*`
    ThenMove : (token : ℕ) → AfterLvalue → AfterValue
    -- it is stored to the place that stands at the one token, at the `=`
    ThenStore : (place : Lvalue) (lvalue_token token : ℕ) → AfterValue → AfterValue
    -- it is dropped, and the body goes on with these statements
    ThenGoOn : List ValueCode → AfterValue

-- What an activity does next: the row of its next step
pub data Control : Type 0 where
  EnterBody : List ValueCode → Control
  EnterStatement : ValueCode → List ValueCode → Control
  EnterLvalue : LvalueCode → AfterLvalue → Control
  EnterAddress : LvalueCode → AfterValue → Control
  EnterAssignment : (token : ℕ) → LvalueCode → ValueCode → AfterValue → Control
  Load : Lvalue → (token : ℕ) → AfterValue → Control
  Move : Value → (token : ℕ) → AfterLvalue → Control
  Store : Lvalue → (lvalue_token : ℕ) → Value → (token : ℕ) → AfterValue → Control
  Leave : Control
  Finished : Control

-- what a step comes to
pub data Outcome : Type 0 where
  -- the blocks, and what comes next
  Next : List Block → Control → Outcome
  Done : Outcome
  Undefined : Reason → (token : ℕ) → Outcome
  Fault : FaultKind → (token : ℕ) → Outcome

-- an object is the one element of its block
abbrev pub object_lvalue : ℕ → Option TypeTree → Option Lvalue
object_lvalue number None = None
object_lvalue number (Some type_) = Some (record { type_ = type_; spot = In number [] 0 1 })

-- the object of a name: its block has the number of its binding
abbrev pub lvalue_from : ℕ → List Binding → List ℕ → Option Lvalue
lvalue_from number [] name = None
lvalue_from number (binding ∷ scope) name =
    if bytes_eq binding.name name then object_lvalue number binding.object else lvalue_from (number + 1) scope name

-- the object of a name in this scope
abbrev pub lvalue_of : List Binding → List ℕ → Option Lvalue
lvalue_of scope name = lvalue_from 0 scope name

-- An expression is taken up at its outermost node; a place whose value is wanted is loaded
abbrev pub taken_up : ValueCode → AfterValue → Control
taken_up (ValueOf place) after = EnterLvalue place (ThenLoad (lvalue_token place) after)
taken_up (AddressOf token place) after = EnterAddress place after
taken_up (Assignment token left right) after = EnterAssignment token left right after

-- the next statement is entered, or the body is left behind its last
abbrev pub gone_on : List ValueCode → Control
gone_on [] = Leave
gone_on (statement ∷ statements) = EnterStatement statement statements

-- What comes behind a value, and behind a place
abbrev pub behind_value : Value → AfterValue → Control
behind_value value (ThenMove token after) = Move value token after
behind_value value (ThenStore place lvalue_token token after) = Store place lvalue_token value token after
behind_value value (ThenGoOn statements) = gone_on statements

-- the place is loaded, is pointed to, or waits for the value that is assigned to it
abbrev pub behind_lvalue : Lvalue → AfterLvalue → Control
behind_lvalue place (ThenLoad token after) = Load place token after
behind_lvalue place (ThenPoint after) = behind_value (Pointer place.type_ place.spot) after
behind_lvalue place (ThenAssign lvalue_token token right after) = taken_up right (ThenStore place lvalue_token token after)

-- The rows

-- a name that is no object has no place
abbrev pub entered_name : List Block → ℕ → Option Lvalue → AfterLvalue → Outcome
entered_name blocks token None after = Fault ShapeFault token
entered_name blocks token (Some place) after = Next blocks (behind_lvalue place after)

-- enter takes up a node
abbrev pub enter_lvalue : List Binding → List Block → LvalueCode → AfterLvalue → Outcome
enter_lvalue scope blocks (Named token name) after = entered_name blocks token (lvalue_of scope name) after
enter_lvalue scope blocks (Behind token pointer) after = Next blocks (taken_up pointer (ThenMove token after))
enter_lvalue scope blocks (NoLvalue token) after = Fault ShapeFault token

-- load gives the value of a place
abbrev pub loaded : List Block → ℕ → AfterValue → Answer Value → Outcome
loaded blocks token after (Gives value) = Next blocks (behind_value value after)
loaded blocks token after (IsFault kind) = Fault kind token
loaded blocks token after (IsUndefined reason) = Undefined reason token

-- move gives the place at the pointer's spot, a null one too (6.5.3.2 p4)
abbrev pub moved : List Block → Value → ℕ → AfterLvalue → Outcome
moved blocks (Pointer target spot) token after = Next blocks (behind_lvalue (record { type_ = target; spot = spot }) after)
moved blocks (Integer kind restricted fouled number) token after = Fault ShapeFault token

-- store adopts a value and writes it; its value is the stored one
abbrev pub written : Value → ℕ → AfterValue → Answer (List Block) → Outcome
written value lvalue_token after (Gives blocks) = Next blocks (behind_value value after)
written value lvalue_token after (IsFault kind) = Fault kind lvalue_token
written value lvalue_token after (IsUndefined reason) = Undefined reason lvalue_token

-- a value that was adopted is written, and one that can't be is told at the `=`
abbrev pub adopted : List Block → Lvalue → ℕ → ℕ → AfterValue → Answer Value → Outcome
adopted blocks place lvalue_token token after (Gives value) = written value lvalue_token after (store blocks place.spot value)
adopted blocks place lvalue_token token after (IsFault kind) = Fault kind token
adopted blocks place lvalue_token token after (IsUndefined reason) = Undefined reason token

-- a store to a place with a flag is a fault, before the value is looked at
abbrev pub stored : List Block → Lvalue → ℕ → Value → ℕ → AfterValue → Outcome
stored blocks place lvalue_token value token after =
    if has_flag (flags_of place.type_) then Fault AccessFault lvalue_token
    else adopted blocks place lvalue_token token after (adopt value place.type_)

-- One step is the row that comes next. An activity that has finished stays so.
abbrev pub step : List Binding → List Block → Control → Outcome
step scope blocks (EnterBody statements) = Next blocks (gone_on statements)
step scope blocks (EnterStatement statement statements) = Next blocks (taken_up statement (ThenGoOn statements))
step scope blocks (EnterLvalue place after) = enter_lvalue scope blocks place after
step scope blocks (EnterAddress place after) = Next blocks (EnterLvalue place (ThenPoint after))
step scope blocks (EnterAssignment token left right after) =
    Next blocks (EnterLvalue left (ThenAssign (lvalue_token left) token right after))
step scope blocks (Load place token after) = loaded blocks token after (load blocks place)
step scope blocks (Move value token after) = moved blocks value token after
step scope blocks (Store place lvalue_token value token after) = stored blocks place lvalue_token value token after
step scope blocks Leave = Done
step scope blocks Finished = Done
