-- Worked examples: single steps that no run of the small units takes, or that end one.
use Rattle.std.specs.Prelude.{◌≡◌, true, List, [], ◌∷◌, ◌++◌, Some, None, codes}
use Rattle.meaning_types.specs.Types.{Flags}
use Rattle.meaning_first_rules.specs.Bindings.{Binding, pointer_to}
use Rattle.meaning_first_rules.specs.Typing.{int_with}
use Rattle.meaning_first_rules.specs.examples.Failures.{noderef_flags}
use Rattle.meaning_machine.specs.Values.{Null, Foreign, Value, Pointer, Lvalue, ForObject, Block}
use Rattle.meaning_machine.specs.Outcomes.{NullPointer, AccessFault, ShapeFault}
use Rattle.meaning_machine.specs.Code.{Named}
use Rattle.meaning_machine.specs.Machine.{ThenLoad, AfterValue, ThenStore, ThenGoOn, EnterBody, EnterLvalue, Load, Move, Store, Leave, Finished, Next, Done, Undefined, Fault, step}
use Rattle.meaning_machine.specs.examples.Runs.{plain_int, int_of, object_spot}
use Rattle.meaning_machine.specs.examples.Rows.{living, space_flags}

-- `extern int *p; extern int *q; void f(void) { .. }`
abbrev pub two_pointers : List Binding
two_pointers =
    record { name = codes "p"; object = Some (pointer_to plain_int) }
    ∷ record { name = codes "q"; object = Some (pointer_to plain_int) }
    ∷ record { name = codes "f"; object = None }
    ∷ []

-- a block that holds this pointer to int
abbrev pub pointer_block : Value → Block
pointer_block value =
    record { made = ForObject (pointer_to plain_int); is_alive = true; cells = record { path = []; content = Some value } ∷ [] }

-- their blocks, where `p` is this pointer and `q` is null
abbrev pub pointer_blocks : Value → List Block
pointer_blocks value = pointer_block value ∷ pointer_block (Pointer plain_int Null) ∷ []

abbrev pub p_lvalue : Lvalue
p_lvalue = record { type_ = pointer_to plain_int; spot = object_spot 0 }

abbrev pub q_lvalue : Lvalue
q_lvalue = record { type_ = pointer_to plain_int; spot = object_spot 1 }

-- an int that is 3, in its one block
abbrev pub int_lvalue : Lvalue
int_lvalue = record { type_ = plain_int; spot = object_spot 0 }

abbrev pub null_lvalue : Lvalue
null_lvalue = record { type_ = plain_int; spot = Null }

-- a flagged int behind a null pointer
abbrev pub null_with : Flags → Lvalue
null_with flags = record { type_ = int_with flags; spot = Null }

-- the body ends behind the value
abbrev pub then_end : AfterValue
then_end = ThenGoOn []

pub record StepExamples : Type 0 where
  -- a body is left behind its last statement, in a step of its own; then the activity is done, and stays so
  pub empty_body : (scope : List Binding) (blocks : List Block) → step scope blocks (EnterBody []) ≡ Next blocks Leave
  pub last_statement : (scope : List Binding) → step scope living (Load int_lvalue 4 then_end) ≡ Next living Leave
  pub left : (scope : List Binding) (blocks : List Block) → step scope blocks Leave ≡ Done
  pub finished : (scope : List Binding) (blocks : List Block) → step scope blocks Finished ≡ Done
  -- the object of a name, the first of two, and names that have none
  pub object_entered :
      (blocks : List Block) → step two_pointers blocks (EnterLvalue (Named 3 (codes "q")) (ThenLoad 3 then_end)) ≡ Next blocks (Load q_lvalue 3 then_end)
  pub first_entered :
      (blocks : List Block)
      → step (two_pointers ++ two_pointers) blocks (EnterLvalue (Named 3 (codes "q")) (ThenLoad 3 then_end)) ≡ Next blocks (Load q_lvalue 3 then_end)
  pub function_entered :
      (blocks : List Block) → step two_pointers blocks (EnterLvalue (Named 3 (codes "f")) (ThenLoad 3 then_end)) ≡ Fault ShapeFault 3
  pub unknown_entered :
      (blocks : List Block) → step two_pointers blocks (EnterLvalue (Named 3 (codes "x")) (ThenLoad 3 then_end)) ≡ Fault ShapeFault 3
  -- `*` gives the place behind a null pointer too (6.5.3.2 p4), and a number is no pointer
  pub null_moved :
      (scope : List Binding) (blocks : List Block)
      → step scope blocks (Move (Pointer plain_int Null) 4 (ThenLoad 4 then_end)) ≡ Next blocks (Load null_lvalue 4 then_end)
  pub number_moved :
      (scope : List Binding) (blocks : List Block) → step scope blocks (Move (int_of 0) 4 (ThenLoad 4 then_end)) ≡ Fault ShapeFault 4
  -- but a null pointer's place isn't loaded
  pub null_loaded : (scope : List Binding) (blocks : List Block) → step scope blocks (Load null_lvalue 4 then_end) ≡ Undefined NullPointer 4
  -- a store to a flagged place is a fault at the place, whatever the value
  pub noderef_stored :
      (scope : List Binding) (blocks : List Block) → step scope blocks (Store (null_with noderef_flags) 3 (int_of 0) 4 then_end) ≡ Fault AccessFault 3
  pub space_stored :
      (scope : List Binding) (blocks : List Block) → step scope blocks (Store (null_with space_flags) 3 (int_of 0) 4 then_end) ≡ Fault AccessFault 3
  -- `q = p = 0`: the value of an assignment is the stored one, a null pointer here (6.5.16 p3)
  pub assignment_valued :
      (scope : List Binding)
      → step scope (pointer_blocks (Pointer plain_int Foreign)) (Store p_lvalue 5 (int_of 0) 6 (ThenStore q_lvalue 3 4 then_end))
      ≡ Next (pointer_blocks (Pointer plain_int Null)) (Store q_lvalue 3 (Pointer plain_int Null) 4 then_end)
