-- Operators that change a place (C11 6.5.2.4, 6.5.3.1, 6.5.16.2).
use Rattle.std.specs.Prelude.{ℕ, List, [], ◌++◌, if◌then◌else◌}
use Rattle.vocabulary.specs.declared.error_kind.ErrorKind.TheVariants.{NotModifiable, WrongOperandTypes}
use Rattle.vocabulary.specs.declared.operator.Operator.{Operator}
use Rattle.meaning_types.specs.Types.{TypeTree, value_type}
use Rattle.meaning_layout.specs.Sizes.{Told}
use Rattle.meaning_operands.specs.Operators.{Operands, IntegerOperands, StepOperands, law_of}
use Rattle.meaning_operands.specs.Failures.{Broken}
use Rattle.meaning_typing.specs.Facts.{Fact, Expression, ExpressionFact, value, type_of_value}
use Rattle.meaning_typing.specs.Rows.{Row, nothing, gives, breaks, breaks_at}
use Rattle.meaning_typing.specs.Expressions.{is_modifiable}
use Rattle.meaning_typing.specs.Operators.{ValueSort, IntegerSort, PointerSort, value_sort, void_alone, void_among, or_else, target_broken, operands_failures, answer_of}

-- only a place that can be written is changed
abbrev pub place_broken : (token : ℕ) → ExpressionFact → List Broken
place_broken token expression = if is_modifiable expression then [] else breaks_at NotModifiable token

-- Compound assignments

-- the place's type, whatever fails
abbrev pub changed : Operator → (token : ℕ) → (left right : ExpressionFact) → List Broken → Row
changed operator token left right broken =
    gives (value (value_type left.type_)) (place_broken token left ++ broken)
    (operands_failures token (type_of_value left) (type_of_value right) (answer_of operator left right).rule)

abbrev pub not_changed : (token first second : ℕ) → ExpressionFact → (of other : ValueSort) → Row
not_changed token first second left of other =
    breaks (or_else (place_broken token left ++ void_among first second of other) (breaks_at WrongOperandTypes token))

-- with two integers
abbrev pub integers_changed : Operator → (token first second : ℕ) → (left right : ExpressionFact) → (of other : ValueSort) → Row
integers_changed operator token first second left right (IntegerSort kind) (IntegerSort other) = changed operator token left right []
integers_changed operator token first second left right of other = not_changed token first second left of other

-- or with a pointer that is moved
abbrev pub moved : Told → Operator → (token first second : ℕ) → (left right : ExpressionFact) → (of other : ValueSort) → Row
moved told operator token first second left right PointerSort (IntegerSort other) =
    changed operator token left right (target_broken told token (type_of_value left))
moved told operator token first second left right of other = integers_changed operator token first second left right of other

abbrev pub compound_by : Operands → Told → Operator → (token first second : ℕ) → (left right : ExpressionFact) → (of other : ValueSort) → Row
compound_by IntegerOperands told operator token first second left right of other = integers_changed operator token first second left right of other
compound_by StepOperands told operator token first second left right of other = moved told operator token first second left right of other
compound_by operands told operator token first second left right of other = nothing

abbrev pub compound_row : Told → Operator → (token first second : ℕ) → (left right : Fact) → Row
compound_row told operator token first second (Expression left) (Expression right) =
    compound_by (law_of operator).operands told operator token first second left right (value_sort left) (value_sort right)
compound_row told operator token first second (Expression left) right = breaks (place_broken token left ++ void_alone first (value_sort left))
compound_row told operator token first second left (Expression right) = breaks (void_alone second (value_sort right))
compound_row told operator token first second left right = nothing

-- `++` and `--`

-- the value has this type
abbrev pub stepped : Told → Operator → (token operand : ℕ) → ExpressionFact → TypeTree → ValueSort → Row
stepped told operator token operand expression type_ (IntegerSort kind) =
    gives (value type_) (place_broken token expression)
    (operands_failures token (type_of_value expression) (type_of_value expression) (answer_of operator expression expression).rule)
stepped told operator token operand expression type_ PointerSort =
    gives (value type_) (place_broken token expression ++ target_broken told token (type_of_value expression)) []
stepped told operator token operand expression type_ of =
    breaks (or_else (place_broken token expression ++ void_alone operand of) (breaks_at WrongOperandTypes token))

-- behind its operand: the value that was there, as it is loaded (6.5.2.4 p2)
abbrev pub step_behind_row : Told → Operator → (token operand : ℕ) → Fact → Row
step_behind_row told operator token operand (Expression expression) =
    stepped told operator token operand expression (type_of_value expression) (value_sort expression)
step_behind_row told operator token operand fact = nothing

-- before it: the value that is stored (6.5.3.1 p2)
abbrev pub step_before_row : Told → Operator → (token operand : ℕ) → Fact → Row
step_before_row told operator token operand (Expression expression) =
    stepped told operator token operand expression (value_type expression.type_) (value_sort expression)
step_before_row told operator token operand fact = nothing
