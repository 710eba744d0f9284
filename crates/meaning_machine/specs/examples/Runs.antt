-- Worked examples: small units, with runs of them.
use Rattle.std.specs.Prelude.{◌≡◌, ℕ, ◌+◌, suc, zero, true, false, pos, List, [], ◌∷◌, Some, None, codes, replicate}
use Rattle.std.specs.List.{flat_map, list_all}
use Rattle.vocabulary.specs.declared.int_kind.IntKind.TheVariants.{Int}
use Rattle.meaning_types.specs.Types.{no_flags, TypeTree, Typed, IntegerTree}
use Rattle.vocabulary.specs.declared.node_kind.NodeKind.TheVariants.{CompoundStatement, ExpressionStatement}
use Rattle.meaning_tree.specs.Trees.{SyntaxTree}
use Rattle.meaning_syntax.specs.Items.{Noderef, Statement, Assign, AssignThrough, AssignAddress, Item, Object, item_fits}
use Rattle.meaning_syntax.specs.Binding.{are_bound}
use Rattle.meaning_syntax.specs.Trees.{unit_tree, plain_node, leaf, one_part, name_tree, assignment_tree, address_tree}
use Rattle.meaning_first_rules.specs.Bindings.{Binding, pointer_to}
use Rattle.meaning_first_rules.specs.Typing.{int_with}
use Rattle.meaning_first_rules.specs.Evaluation.{InAssignment}
use Rattle.meaning_first_rules.specs.Failures.{Failure, SpacesMixed, FlaggedAccess, IsListing}
use Rattle.meaning_first_rules.specs.examples.Failures.{user_flags, user_words, noderef_flags, function_of}
use Rattle.meaning_machine.specs.Values.{Spot, Null, Foreign, In, Value, Integer, Pointer, ForObject, Block}
use Rattle.meaning_machine.specs.Outcomes.{NullPointer, ForeignPointer, IndeterminateValue, AccessFault, SpaceFault, ShapeFault, Gives, IsUndefined}
use Rattle.meaning_machine.specs.Memory.{adopt, load}
use Rattle.meaning_machine.specs.Code.{ValueCode, statement_code}
use Rattle.meaning_machine.specs.Machine.{Control, EnterStatement, Leave, Finished, Outcome, Next, Done, Undefined, Fault, step}
use Rattle.meaning_machine.specs.Runs.{World, Move, Start, Step, Write, Runs}
use Rattle.meaning_machine.specs.plain.Playing.{onto, outcome_of}

-- The items are a unit of the first form with these failures, and the moves, the first one first, are a run of its
-- tree behind which the activity's next step has this outcome.
pub record Meets (items : List Item) (failures : List Failure) (moves : List Move) (activity : ℕ) (outcome : Outcome) : Type 0 where
  pub fit : list_all item_fits items ≡ true
  pub bound : are_bound [] items ≡ true
  pub listed : IsListing (unit_tree items) failures
  pub world : World
  pub runs : Runs (unit_tree items) (onto moves []) world
  pub met : outcome_of (unit_tree items) world activity ≡ Some outcome

-- The items are a unit of the first form without failures, and the moves are a run of its tree that leaves the
-- activities so, and this value in the block of an object.
pub record Ends (items : List Item) (moves : List Move) (activities : List Control) (block : ℕ) (type_ : TypeTree) (value : Value) : Type 0 where
  pub fit : list_all item_fits items ≡ true
  pub bound : are_bound [] items ≡ true
  pub silent : IsListing (unit_tree items) []
  pub world : World
  pub runs : Runs (unit_tree items) (onto moves []) world
  pub ended : world.activities ≡ activities
  pub left : load world.blocks (record { type_ = type_; spot = In block [] 0 1 }) ≡ Gives value

-- What the examples are made of

-- `int`
abbrev pub plain_int : TypeTree
plain_int = int_with no_flags

-- `const int`
abbrev pub const_int : TypeTree
const_int = Typed (IntegerTree Int) (record { is_const = true; is_volatile = false }) no_flags

-- an int with this number
abbrev pub int_of : ℕ → Value
int_of number = Integer Int None false (pos number)

-- the object of a block
abbrev pub object_spot : ℕ → Spot
object_spot block = In block [] 0 1

-- so many steps of one activity
abbrev pub steps_of : ℕ → ℕ → List Move
steps_of activity count = replicate count (Step activity)

-- and of the first
abbrev pub steps : ℕ → List Move
steps count = steps_of 0 count

-- so many steps of each of two activities, by turns
abbrev pub turns : ℕ → List Move
turns count = flat_map (λ move. move ∷ Step 1 ∷ []) (steps count)

-- Runs that meet a fault, of units that warn there

-- a pointer loses its space at the `=`, token 28
abbrev pub SpaceIsLost : Type 0
SpaceIsLost =
    Meets
    (Object [] 1 (codes "p") ∷ Object user_words 1 (codes "u") ∷ function_of (Assign (codes "p") (codes "u") ∷ []) ∷ [])
    (record { token = 28; part = 0; cause = SpacesMixed InAssignment (pointer_to plain_int) (pointer_to (int_with user_flags)) } ∷ [])
    (Start 2 ∷ steps 6)
    0 (Fault SpaceFault 28)

-- a place that may not be dereferenced is stored to, at the `*`, token 21; that the pointer is null makes no difference
abbrev pub NoderefIsAccessed : Type 0
NoderefIsAccessed =
    Meets
    (Object (Noderef ∷ []) 1 (codes "u") ∷ Object [] 0 (codes "x") ∷ function_of (AssignThrough (codes "u") (codes "x") ∷ []) ∷ [])
    (record { token = 21; part = 0; cause = FlaggedAccess (int_with noderef_flags) } ∷ [])
    (Start 2 ∷ steps 9)
    0 (Fault AccessFault 21)

-- a flagged int is loaded by its name, token 22
abbrev pub FlaggedIntIsLoaded : Type 0
FlaggedIntIsLoaded =
    Meets
    (Object (Noderef ∷ []) 0 (codes "x") ∷ Object [] 0 (codes "y") ∷ function_of (Assign (codes "y") (codes "x") ∷ []) ∷ [])
    (record { token = 22; part = 0; cause = FlaggedAccess (int_with noderef_flags) } ∷ [])
    (Start 2 ∷ steps 5)
    0 (Fault AccessFault 22)

-- Runs of silent units

-- `x = y; q = &x; *q = y; p = &q; *p = q;`
abbrev pub silent_body : List Statement
silent_body =
    Assign (codes "x") (codes "y") ∷ AssignAddress (codes "q") (codes "x") ∷ AssignThrough (codes "q") (codes "y")
    ∷ AssignAddress (codes "p") (codes "q") ∷ AssignThrough (codes "p") (codes "q") ∷ []

-- `extern int **p; extern int *q; extern int x; extern int y;` and a function
abbrev pub silent_unit : List Item
silent_unit = Object [] 2 (codes "p") ∷ Object [] 1 (codes "q") ∷ Object [] 0 (codes "x") ∷ Object [] 0 (codes "y") ∷ function_of silent_body ∷ []

-- two activities run the function, step by step in turn, behind a write of 7 into `y`
abbrev pub silent_moves : ℕ → List Move
silent_moves count = Start 4 ∷ Write 3 [] (int_of 7) ∷ Start 4 ∷ turns count

-- they enter the body, take 6 steps for each plain assignment and 9 for each through a pointer, and leave
abbrev pub SilentUnitLeaves : Type 0
SilentUnitLeaves = Ends silent_unit (silent_moves (1 + 6 + 6 + 9 + 6 + 9)) (Leave ∷ Leave ∷ []) 2 plain_int (int_of 7)

-- both activities end, and `p` points to `q`
abbrev pub SilentUnitEnds : Type 0
SilentUnitEnds =
    Ends silent_unit (silent_moves 38) (Finished ∷ Finished ∷ []) 0
    (pointer_to (pointer_to plain_int)) (Pointer (pointer_to plain_int) (object_spot 1))

-- and `x` is 7
abbrev pub SilentUnitCopies : Type 0
SilentUnitCopies = Ends silent_unit (silent_moves 38) (Finished ∷ Finished ∷ []) 2 plain_int (int_of 7)

-- `extern int *q; extern int x; void f(void) { *q = x; }`
abbrev pub through_unit : List Item
through_unit = Object [] 1 (codes "q") ∷ Object [] 0 (codes "x") ∷ function_of (AssignThrough (codes "q") (codes "x") ∷ []) ∷ []

-- `q` is null at the opening; the `*` is token 15
abbrev pub NullIsUndefined : Type 0
NullIsUndefined = Meets through_unit [] (Start 2 ∷ steps 9) 0 (Undefined NullPointer 15)

-- the outside wrote a foreign pointer into `q`
abbrev pub ForeignIsUndefined : Type 0
ForeignIsUndefined =
    Meets through_unit [] (Write 0 [] (Pointer plain_int Foreign) ∷ Start 2 ∷ steps 9) 0 (Undefined ForeignPointer 15)

-- the outside wrote a pointer to const int, which fits; the function copies it as it is, and what it points to isn't const
abbrev pub ConstIsCopied : Type 0
ConstIsCopied =
    Ends
    (Object [] 1 (codes "p") ∷ Object [] 1 (codes "q") ∷ Object [] 0 (codes "x") ∷ function_of (Assign (codes "p") (codes "q") ∷ []) ∷ [])
    (Write 1 [] (Pointer const_int (object_spot 2)) ∷ Start 3 ∷ steps 8)
    (Finished ∷ []) 0 (pointer_to plain_int) (Pointer const_int (object_spot 2))

-- Single rows

-- a block for an int whose value is indeterminate
abbrev pub indeterminate_block : Block
indeterminate_block =
    record { made = ForObject plain_int; is_alive = true; cells = record { path = []; content = None } ∷ [] }

-- an indeterminate value isn't loaded
abbrev pub IndeterminateIsUndefined : Type 0
IndeterminateIsUndefined =
    load (indeterminate_block ∷ []) (record { type_ = plain_int; spot = object_spot 0 }) ≡ IsUndefined IndeterminateValue

-- a pointer to const int may be stored where one to int is wanted, and keeps its target
abbrev pub ConstIsAdopted : Type 0
ConstIsAdopted = adopt (Pointer const_int Null) (pointer_to plain_int) ≡ Gives (Pointer const_int Null)

-- Nodes without a row

-- the outcome behind so many more steps, or the one that ends them before
abbrev pub outcome_behind : ℕ → List Binding → Outcome → Outcome
outcome_behind zero scope outcome = outcome
outcome_behind (suc count) scope (Next blocks control) = outcome_behind count scope (step scope blocks control)
outcome_behind (suc count) scope Done = Done
outcome_behind (suc count) scope (Undefined reason token) = Undefined reason token
outcome_behind (suc count) scope (Fault kind token) = Fault kind token

-- `&x = y;`, whose `&` is token 3
abbrev pub stored_to_address : SyntaxTree
stored_to_address =
    plain_node ExpressionStatement 3
    (one_part (assignment_tree 5 (address_tree 3 (name_tree 4 (codes "x"))) (name_tree 6 (codes "y"))))

-- the left side designates no place: whatever is declared, the third step is a fault there
abbrev pub AddressIsNoLvalue : Type 0
AddressIsNoLvalue =
    (scope : List Binding) (blocks : List Block) (statements : List ValueCode)
    → outcome_behind 2 scope (step scope blocks (EnterStatement (statement_code stored_to_address) statements)) ≡ Fault ShapeFault 3

-- a statement of another kind, braces in a body here, is not passed over: the second step is a fault
abbrev pub StatementWithoutRowIsFault : Type 0
StatementWithoutRowIsFault =
    (scope : List Binding) (blocks : List Block) (statements : List ValueCode)
    → outcome_behind 1 scope (step scope blocks (EnterStatement (statement_code (leaf CompoundStatement 3)) statements)) ≡ Fault ShapeFault 3
