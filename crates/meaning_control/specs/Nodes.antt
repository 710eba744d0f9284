-- What the nodes of a unit are to control: of which kind each is, and which parts it has.
use Rattle.std.specs.Prelude.{ℕ, zero, suc, ◌+◌, ℤ, pos, Bool, true, false, ◌&&◌, ◌||◌, not, nat_eq, is_some, List, [], ◌∷◌, ◌++◌, length, get_or, Option, Some, None, if◌then◌else◌}
use Rattle.std.specs.Ordering.{int_eq}
use Rattle.std.specs.List.{list_any}
use Rattle.vocabulary.specs.declared.int_kind.IntKind.TheVariants as integers
use Rattle.vocabulary.specs.declared.node_kind.NodeKind.{NodeKind}
use Rattle.vocabulary.specs.declared.node_kind.NodeKind.TheVariants as kinds
use Rattle.meaning_constants.specs.Numbers.{wrapped}
use Rattle.meaning_paths.specs.Steps.{Step, Point, Call}
use Rattle.meaning_typing.specs.Units.{UnitNodes, node_at, kind_at, child_at, children_at}
use Rattle.meaning_typing.specs.Facts.{Fact, Declared, fact_at}
use Rattle.meaning_typing.specs.Declarators.{is_function}
use Rattle.meaning_typing.specs.Evaluation.{evaluated_parts}
use Rattle.meaning_typing.specs.ContextSums.{ContextSums}
use Rattle.meaning_control.specs.Kinds.{ControlKind, Value, Calling, Sequence, Body, Not, And, Or, Conditional, Expect, Expression, Block, If, Switch, While, Do, For, Label, Case, Default, Goto, Break, Continue, Return, Context, Attributes}
use Rattle.meaning_control.specs.States.{ControlNode, Node, ControlNodes, NoNodes, Nodes}

-- A unit, and what control asks of its judge, by handles.
pub record JudgedUnit : Type 0 where
  pub nodes : UnitNodes
  pub facts : List Fact
  -- the number of an expression that is constant (C11 6.6 p6)
  pub constant : ℕ → Option ℤ
  -- the number of a `case` in the type of its switch (6.8.4.2 p5)
  pub case_number : ℕ → ℤ
  -- of the function that a declarator declares: the counts with which it is entered and left, where it has contexts
  pub contexts : ℕ → Option ContextSums
  -- and that it never returns
  pub is_noreturn : ℕ → Bool

-- What a node is to those around it.
pub record NodeControl : Type 0 where
  -- where its value isn't tested, or it has none
  pub plain : ControlNode
  -- where control goes by whether its value is true
  pub tested : ControlNode
  -- the function that it names, in parentheses or not, by its declarator
  pub names : Option ℕ

abbrev pub nothing_there : NodeControl
nothing_there = record { plain = Node Sequence 0 NoNodes; tested = Node Sequence 0 NoNodes; names = None }

abbrev pub control_at : List NodeControl → ℕ → NodeControl
control_at controls handle = get_or controls handle nothing_there

abbrev pub nodes_of : List ControlNode → ControlNodes
nodes_of [] = NoNodes
nodes_of (node ∷ nodes) = Nodes node (nodes_of nodes)

-- Which parts are tested

-- By the kind of a node, whether it is tested itself, and the place of a part among those that are passed, and whether it is the
-- last of them.
abbrev pub tests : NodeKind → (is_tested : Bool) → (place : ℕ) → (is_last : Bool) → Bool
tests kinds.LogicalNot is_tested place is_last = is_tested
tests kinds.LogicalAnd is_tested place is_last = not is_last || is_tested
tests kinds.LogicalOr is_tested place is_last = not is_last || is_tested
tests kinds.Conditional is_tested place is_last = nat_eq place 0 || is_tested
tests kinds.BuiltinExpect is_tested place is_last = not is_last && is_tested
tests kinds.Parenthesized is_tested place is_last = is_tested
tests kinds.Comma is_tested place is_last = is_last && is_tested
tests kinds.StatementExpression is_tested place is_last = is_last && is_tested
tests kinds.ExpressionStatement is_tested place is_last = is_tested
tests kinds.IfStatement is_tested place is_last = nat_eq place 0
tests kinds.WhileStatement is_tested place is_last = nat_eq place 0
tests kinds.DoStatement is_tested place is_last = nat_eq place 1
tests kinds.ForStatement is_tested place is_last = nat_eq place 1
tests kind is_tested place is_last = false

-- of a part, as it is tested or not
abbrev pub control_where : NodeControl → (is_tested : Bool) → ControlNode
control_where control is_tested = if is_tested then control.tested else control.plain

-- the parts with these handles, of which the first stands at this place
abbrev pub parts_where : List NodeControl → NodeKind → (is_tested : Bool) → (place : ℕ) → List ℕ → List ControlNode
parts_where controls kind is_tested place [] = []
parts_where controls kind is_tested place (part ∷ parts) =
    control_where (control_at controls part) (tests kind is_tested place (nat_eq (length parts) 0))
    ∷ parts_where controls kind is_tested (place + 1) parts

-- Which parts are passed

-- this one, if it is an initializer; behind a list of attributes those that are behind it
abbrev pub initializer_or : NodeKind → (part : ℕ) → (behind : List ℕ) → List ℕ
initializer_or kinds.Initializer part behind = part ∷ []
initializer_or kinds.AttributeList part behind = behind
initializer_or kind part behind = []

-- the initializer that stands first among these, lists of attributes aside
abbrev pub initializer_first : UnitNodes → List ℕ → List ℕ
initializer_first nodes [] = []
initializer_first nodes (part ∷ parts) = initializer_or (kind_at nodes part) part (initializer_first nodes parts)

-- the initializers of these objects among the parts of their declaration
abbrev pub initializers_of : UnitNodes → (objects : List ℕ) → List ℕ → List ℕ
initializers_of nodes objects [] = []
initializers_of nodes objects (part ∷ parts) =
    (if list_any (nat_eq part) objects then initializer_first nodes parts else []) ++ initializers_of nodes objects parts

-- In the order of the text: of a declaration the initializers of its automatic objects, of a statement expression the items of its
-- body, of each other node the parts that are evaluated.
abbrev pub passed_of : JudgedUnit → (handle : ℕ) → NodeKind → List ℕ
passed_of unit handle kinds.Declaration =
    initializers_of unit.nodes (evaluated_parts unit.nodes unit.facts handle) (children_at unit.nodes handle)
passed_of unit handle kinds.StatementExpression = evaluated_parts unit.nodes unit.facts (child_at unit.nodes handle 0)
passed_of unit handle kind = evaluated_parts unit.nodes unit.facts handle

-- what is expected is passed behind either outcome of the value that is tested
abbrev pub twice_last : List ControlNode → List ControlNode
twice_last (value ∷ expected ∷ []) = value ∷ expected ∷ expected ∷ []
twice_last parts = parts

abbrev pub arranged : NodeKind → (is_tested : Bool) → List ControlNode → List ControlNode
arranged kinds.BuiltinExpect is_tested parts = if is_tested then twice_last parts else parts
arranged kind is_tested parts = parts

-- Calls

abbrev pub declares_function : Fact → Bool
declares_function (Declared declaration) = is_function declaration.type_
declares_function fact = false

-- the function that a node names
abbrev pub named_by : JudgedUnit → List NodeControl → (handle : ℕ) → NodeKind → Option ℕ
named_by unit controls handle kinds.Name =
    if declares_function (fact_at unit.facts (node_at unit.nodes handle).number) then Some (node_at unit.nodes handle).number else None
named_by unit controls handle kinds.Parenthesized = (control_at controls (child_at unit.nodes handle 0)).names
named_by unit controls handle kind = None

-- a call of a function with contexts is a point, and adds what they say
abbrev pub call_steps : (token : ℕ) → Option ContextSums → List Step
call_steps token None = []
call_steps token (Some sums) = Point token false ∷ Call token 0 (pos sums.enters) (pos sums.leaves) ∷ []

-- either way where it is tested, else as true alone
abbrev pub either_way : (is_tested : Bool) → List Bool
either_way is_tested = if is_tested then true ∷ false ∷ [] else true ∷ []

-- a value of which no constant is known
abbrev pub unknown_value : (is_tested : Bool) → ControlKind
unknown_value is_tested = if is_tested then Value (either_way true) else Sequence

abbrev pub called : JudgedUnit → (token : ℕ) → (is_tested : Bool) → Option ℕ → ControlKind
called unit token is_tested None = unknown_value is_tested
called unit token is_tested (Some function) =
    if unit.is_noreturn function then Calling (call_steps token (unit.contexts function)) []
    else (if is_some (unit.contexts function) then Calling (call_steps token (unit.contexts function)) (either_way is_tested)
    else unknown_value is_tested)

-- Kinds

-- how a value that is tested is left: as its constant says, or either way
abbrev pub outcomes_of : Option ℤ → List Bool
outcomes_of None = either_way true
outcomes_of (Some number) = not (int_eq number (pos 0)) ∷ []

abbrev pub is_omitted : NodeKind → Bool
is_omitted kinds.OmittedExpression = true
is_omitted kind = false

abbrev pub control_kind : JudgedUnit → List NodeControl → (handle : ℕ) → (is_tested : Bool) → NodeKind → ControlKind
-- expressions that are followed
control_kind unit controls handle is_tested kinds.Parenthesized = Sequence
control_kind unit controls handle is_tested kinds.Comma = Sequence
control_kind unit controls handle is_tested kinds.StatementExpression = Body
control_kind unit controls handle is_tested kinds.LogicalNot = Not
control_kind unit controls handle is_tested kinds.LogicalAnd = And
control_kind unit controls handle is_tested kinds.LogicalOr = Or
-- without a middle operand the first one is it (our choice, as gcc)
control_kind unit controls handle is_tested kinds.Conditional =
    if nat_eq (length (children_at unit.nodes handle)) 2 then Or else Conditional
control_kind unit controls handle is_tested kinds.BuiltinExpect = if is_tested then Expect else Sequence
-- a condition of `for` that isn't there is true (C11 6.8.5.3 p2)
control_kind unit controls handle is_tested kinds.OmittedExpression = Sequence
control_kind unit controls handle is_tested kinds.Call =
    called unit (node_at unit.nodes handle).token is_tested (control_at controls (child_at unit.nodes handle 0)).names
-- statements
control_kind unit controls handle is_tested kinds.ExpressionStatement = Expression
control_kind unit controls handle is_tested kinds.CompoundStatement = Block
control_kind unit controls handle is_tested kinds.IfStatement = If
control_kind unit controls handle is_tested kinds.SwitchStatement = Switch (unit.constant (child_at unit.nodes handle 0))
control_kind unit controls handle is_tested kinds.WhileStatement = While
control_kind unit controls handle is_tested kinds.DoStatement = Do (node_at unit.nodes handle).number
control_kind unit controls handle is_tested kinds.ForStatement = For (not (is_omitted (kind_at unit.nodes (child_at unit.nodes handle 1))))
control_kind unit controls handle is_tested kinds.LabelStatement = Label (node_at unit.nodes handle).name
control_kind unit controls handle is_tested kinds.CaseStatement = Case (unit.case_number handle)
control_kind unit controls handle is_tested kinds.DefaultStatement = Default
control_kind unit controls handle is_tested kinds.GotoStatement = Goto (node_at unit.nodes handle).name
control_kind unit controls handle is_tested kinds.BreakStatement = Break
control_kind unit controls handle is_tested kinds.ContinueStatement = Continue
control_kind unit controls handle is_tested kinds.ReturnStatement = Return
control_kind unit controls handle is_tested kinds.ContextStatement = Context (wrapped integers.Long (pos (node_at unit.nodes handle).number))
control_kind unit controls handle is_tested kinds.AttributeStatement = Attributes
-- each other node
control_kind unit controls handle is_tested kind = if is_tested then Value (outcomes_of (unit.constant handle)) else Sequence

-- Nodes

-- a node by those before it
abbrev pub control_node : JudgedUnit → List NodeControl → (handle : ℕ) → (is_tested : Bool) → NodeKind → ControlNode
control_node unit controls handle is_tested kind =
    Node (control_kind unit controls handle is_tested kind) (node_at unit.nodes handle).token
    (nodes_of (arranged kind is_tested (parts_where controls kind is_tested 0 (passed_of unit handle kind))))

abbrev pub control_of : JudgedUnit → List NodeControl → (handle : ℕ) → NodeControl
control_of unit controls handle =
    record {
      plain = control_node unit controls handle false (kind_at unit.nodes handle);
      tested = control_node unit controls handle true (kind_at unit.nodes handle);
      names = named_by unit controls handle (kind_at unit.nodes handle);
    }

abbrev pub with_control : JudgedUnit → (handle : ℕ) → List NodeControl → List NodeControl
with_control unit handle controls = controls ++ control_of unit controls handle ∷ []

-- the first so many nodes
abbrev pub controls_of : JudgedUnit → (count : ℕ) → List NodeControl
controls_of unit zero = []
controls_of unit (suc count) = with_control unit count (controls_of unit count)
