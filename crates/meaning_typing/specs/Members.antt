-- Members in expressions (C11 6.5.2.3): `.` and `->` over what is known of the operand.
use Rattle.std.specs.Prelude.{ℕ, List, [], ◌++◌, Option, Some, None, if◌then◌else◌}
use Rattle.std.specs.Str.{bytes_eq}
use Rattle.vocabulary.specs.declared.error_kind.ErrorKind.TheVariants.{CannotDereference, WrongOperandTypes, NoSuchMember, NoAggregate, IncompleteType}
use Rattle.vocabulary.specs.declared.node_kind.NodeKind.{NodeKind}
use Rattle.vocabulary.specs.declared.node_kind.NodeKind.TheVariants as kinds
use Rattle.meaning_types.specs.Types.{Qualifiers, Flags, TypeTree, Typed, PointerTree, AggregateTree, value_type}
use Rattle.meaning_types.specs.Marks.{both, with_flags, member_type}
use Rattle.meaning_layout.specs.Members.{FoundMember, named_member}
use Rattle.meaning_operands.specs.Failures.{Broken}
use Rattle.meaning_constants.specs.Nodes.{loaded_type}
use Rattle.meaning_typing.specs.Surroundings.{Want, ForValue, ForPlace, ForNothing}
use Rattle.meaning_typing.specs.Facts.{Fact, Expression, ExpressionFact, value, place, type_of_value}
use Rattle.meaning_typing.specs.Aggregates.{KnownAggregates}
use Rattle.meaning_typing.specs.Rows.{Row, nothing, gives, breaks, breaks_at, breaks_named, void_used}
use Rattle.meaning_typing.specs.Expressions.{is_array}
use Rattle.meaning_typing.specs.Operators.{has_no_size}

-- Types

-- A member has its own type with the qualifiers and flags of the place of its aggregate added, those of anonymous members on
-- the way to it with them; a space that stands further in stays (p3, p4).
abbrev pub type_of_member : Qualifiers → Flags → FoundMember → TypeTree
type_of_member qualifiers flags found = member_type (both qualifiers found.qualifiers) (with_flags flags found.flags) found.of

-- a member of a place is a place in it
abbrev pub member_place : Qualifiers → Flags → FoundMember → ExpressionFact
member_place qualifiers flags found = record (place (type_of_member qualifiers flags found)) { width = found.width }

-- a member of a value is a value, a bit-field as it is loaded (our choice)
abbrev pub member_value : FoundMember → ExpressionFact
member_value found = value (value_type (loaded_type found.width found.of))

-- Operands

-- what the name names in an aggregate of this type, if it is a complete one
pub data Selection : Type 0 where
  -- the type is no structure and no union
  NotAggregate : Selection
  NotComplete : Selection
  -- in a place with these qualifiers and flags, if there is such a member
  Selected : Qualifiers → Flags → Option FoundMember → Selection

abbrev pub selection_of : KnownAggregates → (name : List ℕ) → TypeTree → Selection
selection_of aggregates name (Typed (AggregateTree number is_union) qualifiers flags) =
    if has_no_size aggregates.told (Typed (AggregateTree number is_union) qualifiers flags) then NotComplete
    else Selected qualifiers flags (named_member bytes_eq (aggregates.names number) name)
selection_of aggregates name (Typed base qualifiers flags) = NotAggregate

-- a void value is used, but nothing of a void place is
abbrev pub void_value_used : (operand : ℕ) → ExpressionFact → List Broken
void_value_used operand expression = if expression.is_place then [] else void_used operand expression

-- `.` (p1, p3)

-- a member of a `register` object is one of it, and one of a constant place is a constant place (6.5.3.2 p1, 6.6 p9)
abbrev pub member_of_place : ExpressionFact → Qualifiers → Flags → FoundMember → ExpressionFact
member_of_place aggregate qualifiers flags found =
    record (member_place qualifiers flags found) { is_register = aggregate.is_register; address = aggregate.address }

-- an array is no value, so none is selected from one
abbrev pub selected_from_value : (token : ℕ) → FoundMember → Row
selected_from_value token found = if is_array found.of then breaks (breaks_at WrongOperandTypes token) else gives (member_value found) [] []

abbrev pub selected_from : (token : ℕ) → ExpressionFact → Qualifiers → Flags → FoundMember → Row
selected_from token aggregate qualifiers flags found =
    if aggregate.is_place then gives (member_of_place aggregate qualifiers flags found) [] [] else selected_from_value token found

-- the token of `.` and that of its operand
abbrev pub selected : (token operand : ℕ) → (name : List ℕ) → ExpressionFact → Selection → Row
selected token operand name aggregate NotAggregate = breaks (breaks_at NoAggregate token ++ void_value_used operand aggregate)
selected token operand name aggregate NotComplete = breaks (breaks_at IncompleteType token)
selected token operand name aggregate (Selected qualifiers flags None) = breaks (breaks_named NoSuchMember token name)
selected token operand name aggregate (Selected qualifiers flags (Some found)) = selected_from token aggregate qualifiers flags found

abbrev pub member_row : KnownAggregates → (token operand : ℕ) → (name : List ℕ) → Fact → Row
member_row aggregates token operand name (Expression expression) =
    selected token operand name expression (selection_of aggregates name expression.type_)
member_row aggregates token operand name fact = nothing

-- `->` (p2, p4): its operand is loaded, so no address that leads through it is constant

abbrev pub pointed_to : (token : ℕ) → (name : List ℕ) → Selection → Row
pointed_to token name NotAggregate = breaks (breaks_at NoAggregate token)
pointed_to token name NotComplete = breaks (breaks_at IncompleteType token)
pointed_to token name (Selected qualifiers flags None) = breaks (breaks_named NoSuchMember token name)
pointed_to token name (Selected qualifiers flags (Some found)) = gives (member_place qualifiers flags found) [] []

abbrev pub pointed_by : KnownAggregates → (token operand : ℕ) → (name : List ℕ) → ExpressionFact → TypeTree → Row
pointed_by aggregates token operand name expression (Typed (PointerTree target) qualifiers flags) =
    pointed_to token name (selection_of aggregates name target)
pointed_by aggregates token operand name expression type_ = breaks (breaks_at CannotDereference token ++ void_used operand expression)

abbrev pub pointer_member_row : KnownAggregates → (token operand : ℕ) → (name : List ℕ) → Fact → Row
pointer_member_row aggregates token operand name (Expression expression) =
    pointed_by aggregates token operand name expression (type_of_value expression)
pointer_member_row aggregates token operand name fact = nothing

-- What is wanted of the operand: `.` takes it as it is, and `->` takes its value

abbrev pub want_of_selection : NodeKind → Want
want_of_selection kinds.Member = ForPlace
want_of_selection kinds.PointerMember = ForValue
want_of_selection kind = ForNothing
