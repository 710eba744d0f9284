-- What is known of the operands of the examples, and rows by what they say: a node stands at token 2, and its parts at 1, 3 and 4.
use Rattle.std.specs.Prelude.{ℤ, pos, Bool, true, false, [], Option, Some, None}
use Rattle.vocabulary.specs.declared.int_kind.IntKind.TheVariants as integers
use Rattle.vocabulary.specs.declared.operator.Operator.{Operator}
use Rattle.vocabulary.specs.declared.rule.RuleCode.{RuleCode}
use Rattle.meaning_types.specs.Types.{NumberedSpace, TypeTree, Typed, VoidTree, IntegerTree, RestrictedTree, FunctionTree, AggregateTree, NoTypes, no_flags, no_qualifiers, pointer_to}
use Rattle.meaning_operands.specs.Failures.{Failure}
use Rattle.meaning_typing.specs.Facts.{Fact, Expression, NamedType, ExpressionFact, ConstantPlace, place, value}
use Rattle.meaning_typing.specs.Specifiers.{plain_type}
use Rattle.meaning_typing.specs.Declarators.{array_type, nothing_told}
use Rattle.meaning_typing.specs.Rows.{Row, fails_with}
use Rattle.meaning_typing.specs.Operators.{binary_row, integer, unary_row}
use Rattle.meaning_typing.specs.Conditionals.{conditional_row, conditional_without_middle}
use Rattle.meaning_typing.specs.Casts.{cast_row}
use Rattle.meaning_typing.specs.Changes.{compound_row, step_before_row, step_behind_row}
use Rattle.meaning_typing.specs.examples.Drawn.{int, user_int}

-- Types

abbrev pub char : TypeTree
char = integer integers.Char

abbrev pub unsigned_int : TypeTree
unsigned_int = integer integers.UInt

abbrev pub long : TypeTree
long = integer integers.Long

abbrev pub unsigned_long : TypeTree
unsigned_long = integer integers.ULong

abbrev pub void : TypeTree
void = plain_type VoidTree

-- restricted types, each with the token of its declaration: the narrow one of 16 bits, the wide ones of 32
abbrev pub le16 : TypeTree
le16 = plain_type (RestrictedTree integers.UShort 1)

abbrev pub le32 : TypeTree
le32 = plain_type (RestrictedTree integers.UInt 2)

abbrev pub be32 : TypeTree
be32 = plain_type (RestrictedTree integers.UInt 3)

abbrev pub to_int : TypeTree
to_int = pointer_to int

abbrev pub to_user_int : TypeTree
to_user_int = pointer_to user_int

abbrev pub to_int_in_space_1 : TypeTree
to_int_in_space_1 = pointer_to (Typed (IntegerTree integers.Int) no_qualifiers (record { noderef = false; space = NumberedSpace 1 }))

abbrev pub to_void : TypeTree
to_void = pointer_to void

abbrev pub to_const_void : TypeTree
to_const_void = pointer_to (Typed VoidTree (record { is_const = true; is_volatile = false }) no_flags)

abbrev pub nothing_from_nothing : TypeTree
nothing_from_nothing = plain_type (FunctionTree void NoTypes false)

abbrev pub unknown_length : TypeTree
unknown_length = array_type int None

abbrev pub structure : TypeTree
structure = plain_type (AggregateTree 9 false)

-- Operands

abbrev pub c : ExpressionFact
c = place char

abbrev pub t : ExpressionFact
t = place (integer integers.Bool)

abbrev pub i : ExpressionFact
i = place int

abbrev pub ui : ExpressionFact
ui = place unsigned_int

abbrev pub l : ExpressionFact
l = place long

abbrev pub h : ExpressionFact
h = place le16

abbrev pub r : ExpressionFact
r = place le32

abbrev pub rb : ExpressionFact
rb = place be32

-- `~h`
abbrev pub fouled_h : ExpressionFact
fouled_h = record (value le16) { is_fouled = true }

abbrev pub p : ExpressionFact
p = place to_int

abbrev pub s : ExpressionFact
s = place (pointer_to char)

abbrev pub v : ExpressionFact
v = place to_void

abbrev pub u : ExpressionFact
u = place to_user_int

abbrev pub none : ExpressionFact
none = record (place nothing_from_nothing) { address = ConstantPlace }

abbrev pub x : ExpressionFact
x = place structure

-- `none()` and `*v`
abbrev pub void_value : ExpressionFact
void_value = value void

abbrev pub void_place : ExpressionFact
void_place = place void

-- a pointer to an array without a length
abbrev pub to_unknown : ExpressionFact
to_unknown = place (pointer_to unknown_length)

abbrev pub number : ℤ → ExpressionFact
number constant = record (value int) { constant = Some constant }

abbrev pub zero : ExpressionFact
zero = number (pos 0)

-- `(void *)0`
abbrev pub null : ExpressionFact
null = record (value to_void) { is_null = true }

-- Rows

abbrev pub unary : Operator → ExpressionFact → Row
unary operator operand = unary_row operator 2 3 (Expression operand)

abbrev pub binary : Operator → (left right : ExpressionFact) → Row
binary operator left right = binary_row nothing_told operator 2 1 3 (Expression left) (Expression right)

abbrev pub conditional : (condition left right : ExpressionFact) → Row
conditional condition left right = conditional_row 2 1 3 4 (Expression condition) (Expression left) (Expression right)

abbrev pub without_middle : (condition right : ExpressionFact) → Row
without_middle condition right = conditional_without_middle 2 1 3 (Expression condition) (Expression right)

abbrev pub cast : TypeTree → ExpressionFact → Row
cast to operand = cast_row 2 false (NamedType to) (Expression operand)

abbrev pub forced_cast : TypeTree → ExpressionFact → Row
forced_cast to operand = cast_row 2 true (NamedType to) (Expression operand)

abbrev pub compound : Operator → (left right : ExpressionFact) → Row
compound operator left right = compound_row nothing_told operator 2 1 3 (Expression left) (Expression right)

abbrev pub behind : Operator → ExpressionFact → Row
behind operator operand = step_behind_row nothing_told operator 2 1 (Expression operand)

abbrev pub before : Operator → ExpressionFact → Row
before operator operand = step_before_row nothing_told operator 2 3 (Expression operand)

-- the type that a row gives, and whether its value is fouled
abbrev pub typed : Fact → Option (TypeTree × Bool)
typed (Expression expression) = Some (expression.type_, expression.is_fouled)
typed fact = None

abbrev pub gives : Row → Option (TypeTree × Bool)
gives row = typed row.fact

abbrev pub plain : TypeTree → Option (TypeTree × Bool)
plain type_ = Some (type_, false)

abbrev pub fouled : TypeTree → Option (TypeTree × Bool)
fouled type_ = Some (type_, true)

-- a rule fails at the node, and names one type, or two
abbrev pub names : RuleCode → TypeTree → Failure
names rule type_ = fails_with rule 2 0 (Some type_) None []

abbrev pub shows : RuleCode → (left right : TypeTree) → Failure
shows rule left right = fails_with rule 2 0 (Some left) (Some right) []

abbrev pub null_pointer : RuleCode → Failure
null_pointer rule = fails_with rule 2 0 None None []
