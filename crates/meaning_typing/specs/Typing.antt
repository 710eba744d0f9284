-- What is known of the nodes of a unit: one sentence for all of them.
use Rattle.std.specs.Prelude.{ℕ, ◌-◌, ℤ, nat_lt, Bool, true, false, ◌&&◌, not, List, [], ◌∷◌, ◌++◌, map, length, take, Option, Some, None, option_map, if◌then◌else◌}
use Rattle.vocabulary.specs.declared.node_kind.NodeKind.{NodeKind}
use Rattle.vocabulary.specs.declared.node_kind.NodeKind.TheVariants as kinds
use Rattle.vocabulary.specs.declared.rule.RuleCode.{RuleCode}
use Rattle.meaning_types.specs.Types.{TypeTree, IntegerTree}
use Rattle.meaning_types.specs.Spaces.{is_void}
use Rattle.meaning_operands.specs.Accesses.{access_answer}
use Rattle.meaning_operands.specs.Failures.{Failure, Broken}
use Rattle.meaning_constants.specs.Constants.{Part}
use Rattle.meaning_constants.specs.Sizes.{Sizes, sizes_by}
use Rattle.meaning_constants.specs.Nodes.{NodeFacts, node_constant, loaded_type}
use Rattle.meaning_typing.specs.Units.{UnitNodes, node_at, kind_at, children_at, child_at, children_from}
use Rattle.meaning_typing.specs.Operations.{Operation, StepBehind, StepBefore, UnaryOperation, NotOperation, SizeOperation, CastOperation, BinaryOperation, LogicalOperation, ConditionalOperation, CompoundOperation, CommaOperation, ExpectOperation, StatementsOperation, NoOperation, operation_of}
use Rattle.meaning_typing.specs.Surroundings.{Surrounding, Want, ForValue, ForStore, surrounding_at}
use Rattle.meaning_typing.specs.Facts.{Fact, Expression, Declared, NamedType, ExpressionFact, fact_at, is_loaded}
use Rattle.meaning_typing.specs.Specifiers.{plain_type, specified}
use Rattle.meaning_typing.specs.Declarators.{declarator_fact, parameter_fact, specifiers_of, large_in, nothing_told, type_declared, type_designated, named_if, named_type}
use Rattle.meaning_typing.specs.Names.{declared_behind, name_row, redeclarations, typedefs_again}
use Rattle.meaning_typing.specs.Expressions.{Argument, literal_row, string_row, indirection_row, address_row, subscript_row, assignment_row, call_row}
use Rattle.meaning_typing.specs.Operators.{unary_row, not_row, binary_row, logical_row, comma_row, statement_expression_row}
use Rattle.meaning_typing.specs.Conditionals.{conditional_row, conditional_without_middle}
use Rattle.meaning_typing.specs.Changes.{compound_row, step_before_row, step_behind_row}
use Rattle.meaning_typing.specs.Casts.{is_forced, cast_row, sizeof_row, expect_row}
use Rattle.meaning_typing.specs.Statements.{result_around, return_row}
use Rattle.meaning_typing.specs.Offsets.{known_members, offset_at}
use Rattle.meaning_typing.specs.Rows.{Row, nothing, known, unless_broken, fails_with}

-- Constants: they are part of what is known, since types ask for them

-- what a constant sees of a part: of a bit-field what is loaded of it, and an array whole, since its size may be asked
abbrev pub part_seen : Fact → Option Part
part_seen (Expression expression) =
    Some (record { of = loaded_type expression.width expression.type_; fouled = expression.is_fouled; number = expression.constant })
part_seen (NamedType type_) = Some (record { of = type_; fouled = false; number = None })
part_seen fact = None

-- the sizes that types have where no aggregate was told
abbrev pub known_sizes : Sizes
known_sizes = sizes_by nothing_told

abbrev pub facts_for_constant : UnitNodes → List Fact → (handle : ℕ) → NodeFacts
facts_for_constant nodes facts handle =
    record {
      kind = kind_at nodes handle;
      number = (node_at nodes handle).number;
      parts = map (λ child. part_seen (fact_at facts child)) (children_at nodes handle);
      enumerator = None;
      offset = offset_at nothing_told known_members nodes facts handle;
    }

-- the number of the constant of a node, if it has one (C11 6.6)
abbrev pub constant_at : UnitNodes → List Fact → (handle : ℕ) → Option ℤ
constant_at nodes facts handle = option_map (λ constant. constant.number) (node_constant known_sizes (facts_for_constant nodes facts handle))

abbrev pub with_constant : Option ℤ → Fact → Fact
with_constant constant (Expression expression) = Expression (record expression { constant = constant })
with_constant constant fact = fact

abbrev pub row_with_constant : Option ℤ → Row → Row
row_with_constant constant row = record row { fact = with_constant constant row.fact }

-- Rows

abbrev pub token_at : UnitNodes → ℕ → ℕ
token_at nodes handle = (node_at nodes handle).token

abbrev pub argument_at : UnitNodes → List Fact → ℕ → Argument
argument_at nodes facts handle = record { token = token_at nodes handle; fact = fact_at facts handle }

-- what a declarator declares, whether it was declared otherwise before, and whether its arrays are too large
abbrev pub declaration_row : UnitNodes → List Surrounding → List Fact → (handle : ℕ) → Surrounding → Fact → Row
declaration_row nodes surroundings facts handle surrounding (Declared declaration) =
    record {
      fact = unless_broken (typedefs_again surroundings facts (token_at nodes handle) surrounding declaration) (Declared declaration);
      broken = typedefs_again surroundings facts (token_at nodes handle) surrounding declaration;
      failures = redeclarations facts (token_at nodes handle) declaration;
      passed = [];
    }
declaration_row nodes surroundings facts handle surrounding fact = nothing

abbrev pub declarator_row : UnitNodes → List Surrounding → List Fact → (handle : ℕ) → Surrounding → Row
declarator_row nodes surroundings facts handle surrounding =
    record
    (declaration_row nodes surroundings facts handle surrounding
    (declarator_fact nodes surrounding facts handle (specifiers_of nodes facts surrounding.parent))) {
      passed = large_in nodes facts surrounding.parent (children_at nodes handle) (specifiers_of nodes facts surrounding.parent);
    }

-- the first of the parts, if there is one
abbrev pub first_fact : List Fact → List ℕ → Option Fact
first_fact facts [] = None
first_fact facts (handle ∷ handles) = Some (fact_at facts handle)

-- Operators

abbrev pub part_token : UnitNodes → (handle place : ℕ) → ℕ
part_token nodes handle place = token_at nodes (child_at nodes handle place)

abbrev pub part_fact : UnitNodes → List Fact → (handle place : ℕ) → Fact
part_fact nodes facts handle place = fact_at facts (child_at nodes handle place)

-- `?:` has three parts, or two without its middle operand
abbrev pub has_middle : UnitNodes → (handle : ℕ) → Bool
has_middle nodes handle = nat_lt 2 (length (node_at nodes handle).children)

abbrev pub conditional_at : UnitNodes → List Fact → (handle : ℕ) → Row
conditional_at nodes facts handle =
    if has_middle nodes handle
    then conditional_row (token_at nodes handle) (part_token nodes handle 0) (part_token nodes handle 1) (part_token nodes handle 2)
    (part_fact nodes facts handle 0) (part_fact nodes facts handle 1) (part_fact nodes facts handle 2)
    else conditional_without_middle (token_at nodes handle) (part_token nodes handle 0) (part_token nodes handle 1)
    (part_fact nodes facts handle 0) (part_fact nodes facts handle 1)

-- the last part of a body; where there is none, a handle that no node has
abbrev pub last_statement : UnitNodes → (body : ℕ) → ℕ
last_statement nodes body = child_at nodes body (length (node_at nodes body).children - 1)

-- only an expression statement has a value, if an expression stands in it
abbrev pub value_of_statement : NodeKind → Option Fact → Option Fact
value_of_statement kinds.ExpressionStatement value = value
value_of_statement kind value = None

abbrev pub last_value : UnitNodes → List Fact → (statement : ℕ) → Option Fact
last_value nodes facts statement = value_of_statement (kind_at nodes statement) (first_fact facts (children_at nodes statement))

abbrev pub operation_row : UnitNodes → List Fact → (handle : ℕ) → Operation → Row
operation_row nodes facts handle (StepBehind operator) =
    step_behind_row nothing_told operator (token_at nodes handle) (part_token nodes handle 0) (part_fact nodes facts handle 0)
operation_row nodes facts handle (StepBefore operator) =
    step_before_row nothing_told operator (token_at nodes handle) (part_token nodes handle 0) (part_fact nodes facts handle 0)
operation_row nodes facts handle (UnaryOperation operator) =
    unary_row operator (token_at nodes handle) (part_token nodes handle 0) (part_fact nodes facts handle 0)
operation_row nodes facts handle NotOperation = not_row (token_at nodes handle) (part_token nodes handle 0) (part_fact nodes facts handle 0)
operation_row nodes facts handle SizeOperation = sizeof_row nothing_told (token_at nodes handle) (part_fact nodes facts handle 0)
operation_row nodes facts handle CastOperation =
    cast_row (token_at nodes handle) (is_forced nodes (child_at nodes handle 0)) (part_fact nodes facts handle 0) (part_fact nodes facts handle 1)
operation_row nodes facts handle (BinaryOperation operator) =
    binary_row nothing_told operator (token_at nodes handle) (part_token nodes handle 0) (part_token nodes handle 1)
    (part_fact nodes facts handle 0) (part_fact nodes facts handle 1)
operation_row nodes facts handle (LogicalOperation operator) =
    logical_row operator (token_at nodes handle) (part_token nodes handle 0) (part_token nodes handle 1)
    (part_fact nodes facts handle 0) (part_fact nodes facts handle 1)
operation_row nodes facts handle ConditionalOperation = conditional_at nodes facts handle
operation_row nodes facts handle (CompoundOperation operator) =
    compound_row nothing_told operator (token_at nodes handle) (part_token nodes handle 0) (part_token nodes handle 1)
    (part_fact nodes facts handle 0) (part_fact nodes facts handle 1)
operation_row nodes facts handle CommaOperation = comma_row (part_fact nodes facts handle 1)
operation_row nodes facts handle ExpectOperation =
    expect_row (part_token nodes handle 0) (part_token nodes handle 1) (part_fact nodes facts handle 0) (part_fact nodes facts handle 1)
operation_row nodes facts handle StatementsOperation =
    statement_expression_row (last_value nodes facts (last_statement nodes (child_at nodes handle 0)))
operation_row nodes facts handle NoOperation = nothing

-- The row of a node by its kind, over what is known of the nodes before it
abbrev pub row_of : UnitNodes → List Surrounding → List Fact → (handle : ℕ) → NodeKind → Row
-- 6.7
row_of nodes surroundings facts handle kinds.Specifiers = known (specified nodes facts (token_at nodes handle) (children_at nodes handle))
row_of nodes surroundings facts handle kinds.TypedefName = known (named_if (type_declared (fact_at facts (node_at nodes handle).number)))
row_of nodes surroundings facts handle kinds.Declarator = declarator_row nodes surroundings facts handle (surrounding_at surroundings handle)
row_of nodes surroundings facts handle kinds.Parameter = known (parameter_fact nodes facts handle)
row_of nodes surroundings facts handle kinds.TypeName = known (named_if (named_type nodes facts handle))
row_of nodes surroundings facts handle kinds.TypeofType = known (fact_at facts (child_at nodes handle 0))
row_of nodes surroundings facts handle kinds.TypeofExpression = known (named_if (type_designated (fact_at facts (child_at nodes handle 0))))
-- 6.5.1
row_of nodes surroundings facts handle kinds.Name = name_row facts (declared_behind nodes surroundings facts (node_at nodes handle).number)
row_of nodes surroundings facts handle (kinds.IntegerConstant kind) = literal_row (plain_type (IntegerTree kind))
row_of nodes surroundings facts handle (kinds.CharacterConstant kind) = literal_row (plain_type (IntegerTree kind))
row_of nodes surroundings facts handle kinds.StringLiteral = string_row (node_at nodes handle).number
row_of nodes surroundings facts handle kinds.Parenthesized = known (fact_at facts (child_at nodes handle 0))
-- 6.5.2
row_of nodes surroundings facts handle kinds.Subscript =
    subscript_row (token_at nodes handle) (token_at nodes (child_at nodes handle 0)) (token_at nodes (child_at nodes handle 1))
    (fact_at facts (child_at nodes handle 0)) (fact_at facts (child_at nodes handle 1))
row_of nodes surroundings facts handle kinds.Call =
    call_row (token_at nodes handle) (token_at nodes (child_at nodes handle 0)) (fact_at facts (child_at nodes handle 0))
    (map (argument_at nodes facts) (children_from nodes handle 1))
-- 6.5.3
row_of nodes surroundings facts handle kinds.Address = address_row (token_at nodes handle) (fact_at facts (child_at nodes handle 0))
row_of nodes surroundings facts handle kinds.Indirection =
    indirection_row (token_at nodes handle) (token_at nodes (child_at nodes handle 0)) (fact_at facts (child_at nodes handle 0))
-- 6.5.16
row_of nodes surroundings facts handle kinds.Assignment =
    assignment_row (token_at nodes handle) (token_at nodes (child_at nodes handle 1))
    (fact_at facts (child_at nodes handle 0)) (fact_at facts (child_at nodes handle 1))
-- 6.8
row_of nodes surroundings facts handle kinds.ReturnStatement =
    return_row (token_at nodes handle) (token_at nodes (child_at nodes handle 0)) (first_fact facts (children_at nodes handle))
    (result_around nodes facts (surrounding_at surroundings handle).around.function)
-- 6.5.2.4, 6.5.3 to 6.5.17
row_of nodes surroundings facts handle kind = operation_row nodes facts handle (operation_of kind)

abbrev pub row_at : UnitNodes → List Surrounding → (earlier : List Fact) → (handle : ℕ) → Row
row_at nodes surroundings earlier handle =
    row_with_constant (constant_at nodes earlier handle) (row_of nodes surroundings earlier handle (kind_at nodes handle))

-- Accesses (6.3.2.1 p2, 6.5.16 p3)

-- a value or a store is wanted
abbrev pub accesses : Want → Bool
accesses ForValue = true
accesses ForStore = true
accesses want = false

-- a place that is loaded or stored to; a void one isn't
abbrev pub is_accessed : Surrounding → ExpressionFact → Bool
is_accessed surrounding expression =
    surrounding.is_evaluated && accesses surrounding.want && is_loaded expression && not (is_void expression.type_)

abbrev pub access_failure : (token : ℕ) → TypeTree → Option RuleCode → List Failure
access_failure token place None = []
access_failure token place (Some rule) = fails_with rule token 0 (Some place) None [] ∷ []

abbrev pub access_failures : (token : ℕ) → Surrounding → Fact → List Failure
access_failures token surrounding (Expression expression) =
    if is_accessed surrounding expression then access_failure token expression.type_ (access_answer expression.type_) else []
access_failures token surrounding fact = []

-- all rules that fail at a node
abbrev pub failures_at : UnitNodes → List Surrounding → List Fact → (handle : ℕ) → List Failure
failures_at nodes surroundings facts handle =
    (row_at nodes surroundings (take handle facts) handle).failures
    ++ access_failures (token_at nodes handle) (surrounding_at surroundings handle) (fact_at facts handle)

-- and all constraints that it breaks
abbrev pub broken_at : UnitNodes → List Surrounding → List Fact → (handle : ℕ) → List Broken
broken_at nodes surroundings facts handle = (row_at nodes surroundings (take handle facts) handle).broken

-- where it passes the limit of the size of an object
abbrev pub passed_at : UnitNodes → List Surrounding → List Fact → (handle : ℕ) → List ℕ
passed_at nodes surroundings facts handle = (row_at nodes surroundings (take handle facts) handle).passed
