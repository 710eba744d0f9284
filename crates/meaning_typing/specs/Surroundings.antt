-- What a node stands in: what is wanted of it, whether it is evaluated, and who is around it. All of it comes down from the
-- node above.
use Rattle.std.specs.Prelude.{◌≡◌, ℕ, zero, suc, ◌-◌, ◌<◌, nat_lt, Bool, true, false, ◌&&◌, List, length, get_or, slice_get, Option, Some, None, if◌then◌else◌}
use Rattle.vocabulary.specs.declared.node_kind.NodeKind.{NodeKind}
use Rattle.vocabulary.specs.declared.node_kind.NodeKind.TheVariants.{TranslationUnit, StaticAssertion, FunctionDefinition, TypeofExpression, BitFieldWidth, Enumerator, ArrayDeclarator, FunctionDeclarator, Initializer, InitializerItem, IndexDesignator, CompoundStatement, LabelStatement, CaseStatement, DefaultStatement, ExpressionStatement, IfStatement, SwitchStatement, WhileStatement, DoStatement, ForStatement, ReturnStatement, Parenthesized, Subscript, Call, Member, PointerMember, Address, Indirection, Assignment}
use Rattle.vocabulary.specs.declared.role.Role.{Role}
use Rattle.vocabulary.specs.declared.role.Role.TheVariants.{Evaluated, Condition, TypePart, Unevaluated}
use Rattle.vocabulary.specs.Roles.{role_of}
use Rattle.meaning_typing.specs.Units.{UnitNodes, kind_at, node_at}
use Rattle.meaning_typing.specs.Operations.{Operation, StepBehind, StepBefore, SizeOperation, CompoundOperation, StatementsOperation, NoOperation, operation_of}

-- what a node wants of a part
pub data Want : Type 0 where
  -- its value: a place is loaded (C11 6.3.2.1 p2)
  ForValue : Want
  -- the place that it designates, to store to it (6.5.16 p3)
  ForStore : Want
  -- that place alone, or what the parentheses around it stand for (6.5.3.2 p3, 6.5.1 p5)
  ForPlace : Want
  -- what it does: it is a statement, or a body
  ForEffect : Want
  -- nothing of the kind: it declares, or is written only
  ForNothing : Want

-- Who is around a node, by handle
pub record Around : Type 0 where
  -- the function in whose body it stands
  pub function : Option ℕ
  -- the node that opened its scope: the unit, a body, a `for`, a parameter list (6.2.1 p4)
  pub scope : ℕ

pub record Surrounding : Type 0 where
  -- the node above, and the place among its parts, counted from 0
  pub parent : ℕ
  pub place : ℕ
  pub want : Want
  -- neither it nor a node above it is a part of a type, or is only looked at
  pub is_evaluated : Bool
  pub around : Around

-- by what an operator does with the operand at this place: it is changed, measured, or a value like most
abbrev pub wanted_by : Operation → (place : ℕ) → Want
wanted_by (StepBehind operator) place = ForStore
wanted_by (StepBefore operator) place = ForStore
wanted_by (CompoundOperation operator) zero = ForStore
wanted_by SizeOperation place = ForPlace
wanted_by StatementsOperation place = ForEffect
wanted_by NoOperation place = ForNothing
wanted_by other place = ForValue

-- What a node asks of its parts, by their places
pub data Asking : Type 0 where
  -- the value of each, the place that each designates, or what each does
  AsksValues : Asking
  AsksPlaces : Asking
  AsksEffects : Asking
  -- a value, and behind it what others do
  AsksValueFirst : Asking
  -- what a statement does, and behind it a value
  AsksValueLast : Asking
  -- a place to store to, and a value
  AsksStoreFirst : Asking
  -- three values, and what a statement does
  AsksThreeValues : Asking
  -- a value and nothing more
  AsksOneValue : Asking
  -- by what an operator does
  AsksByOperation : Asking

abbrev pub asking_of : NodeKind → Asking
-- expressions whose kind has no operation (6.5.1, 6.5.2, 6.5.3.2, 6.5.16)
asking_of Parenthesized = AsksPlaces
asking_of Subscript = AsksValues
asking_of Call = AsksValues
asking_of Member = AsksPlaces
asking_of PointerMember = AsksValues
asking_of Address = AsksPlaces
asking_of Indirection = AsksValues
asking_of Assignment = AsksStoreFirst
-- what stands in declarations (6.7): constants, and what an object begins with
asking_of TypeofExpression = AsksPlaces
asking_of ArrayDeclarator = AsksValues
asking_of BitFieldWidth = AsksValues
asking_of Enumerator = AsksValues
asking_of StaticAssertion = AsksOneValue
asking_of IndexDesignator = AsksValues
asking_of Initializer = AsksValues
asking_of InitializerItem = AsksValues
-- statements (6.8, 6.9.1)
asking_of FunctionDefinition = AsksEffects
asking_of CompoundStatement = AsksEffects
asking_of LabelStatement = AsksEffects
asking_of CaseStatement = AsksValueFirst
asking_of DefaultStatement = AsksEffects
asking_of ExpressionStatement = AsksValues
asking_of IfStatement = AsksValueFirst
asking_of SwitchStatement = AsksValueFirst
asking_of WhileStatement = AsksValueFirst
asking_of DoStatement = AsksValueLast
asking_of ForStatement = AsksThreeValues
asking_of ReturnStatement = AsksValues
asking_of kind = AsksByOperation

abbrev pub wanted_so : Asking → Operation → (place : ℕ) → Want
wanted_so AsksValues by place = ForValue
wanted_so AsksPlaces by place = ForPlace
wanted_so AsksEffects by place = ForEffect
wanted_so AsksValueFirst by zero = ForValue
wanted_so AsksValueFirst by (suc place) = ForEffect
wanted_so AsksValueLast by zero = ForEffect
wanted_so AsksValueLast by (suc place) = ForValue
wanted_so AsksStoreFirst by zero = ForStore
wanted_so AsksStoreFirst by (suc place) = ForValue
wanted_so AsksThreeValues by place = if nat_lt place 3 then ForValue else ForEffect
wanted_so AsksOneValue by zero = ForValue
wanted_so AsksOneValue by (suc place) = ForNothing
wanted_so AsksByOperation by place = wanted_by by place

-- by the kind of the node above and the place among its parts
abbrev pub want_of : NodeKind → (place : ℕ) → Want
want_of kind place = wanted_so (asking_of kind) (operation_of kind) place

-- a part of a type is written only
abbrev pub wanted : NodeKind → (place : ℕ) → Role → Want
wanted kind place TypePart = ForNothing
wanted kind place role = want_of kind place

-- nothing is evaluated in a part of a type, nor in what is only looked at (6.5.3.4 p2, 6.6 p6)
abbrev pub evaluates : Role → Bool
evaluates Evaluated = true
evaluates Condition = true
evaluates TypePart = false
evaluates Unevaluated = false

-- a node of this kind opens a scope (6.2.1 p4): our choice of blocks
abbrev pub opens_scope : NodeKind → Bool
opens_scope TranslationUnit = true
opens_scope CompoundStatement = true
opens_scope ForStatement = true
opens_scope FunctionDeclarator = true
opens_scope kind = false

-- the function around a part in this role: its body alone is evaluated
abbrev pub function_around : NodeKind → (handle : ℕ) → Role → Option ℕ → Option ℕ
function_around FunctionDefinition handle Evaluated outer = Some handle
function_around kind handle role outer = outer

-- who is around the parts of a node
abbrev pub around_parts : NodeKind → (handle : ℕ) → Role → Around → Around
around_parts kind handle role around =
    record {
      function = function_around kind handle role around.function;
      scope = if opens_scope kind then handle else around.scope;
    }

-- what a node asks of the part at this place, in this role, where it stands so itself
abbrev pub asked : NodeKind → (handle place : ℕ) → Role → Surrounding → Surrounding
asked kind handle place role surrounding =
    record {
      parent = handle;
      place = place;
      want = wanted kind place role;
      is_evaluated = surrounding.is_evaluated && evaluates role;
      around = around_parts kind handle role surrounding.around;
    }

-- the unit stands in nothing
abbrev pub of_unit : (root : ℕ) → Surrounding
of_unit root =
    record { parent = root; place = 0; want = ForNothing; is_evaluated = true; around = record { function = None; scope = root } }

abbrev pub surrounding_at : List Surrounding → ℕ → Surrounding
surrounding_at surroundings handle = get_or surroundings handle (of_unit (length surroundings))

-- this is what the nodes of a unit stand in, whose last node is the unit itself
pub record AreSurroundings (nodes : UnitNodes) (surroundings : List Surrounding) : Type 0 where
  pub all : length surroundings ≡ length nodes
  pub unit : 0 < length nodes → slice_get surroundings (length nodes - 1) ≡ Some (of_unit (length nodes - 1))
  pub parts : (handle place : ℕ) (child : ℕ × ℕ) → slice_get (node_at nodes handle).children place ≡ Some child
      → slice_get surroundings child.0 ≡ Some (asked (kind_at nodes handle) handle place (role_of child.1) (surrounding_at surroundings handle))
