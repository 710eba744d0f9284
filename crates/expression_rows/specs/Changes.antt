-- Changes of places by what is asked of the operands.
use Rattle.std.specs.Prelude.{ℕ, Bool, List, [], ◌++◌, if◌then◌else◌}
use Rattle.vocabulary.specs.declared.error_kind.ErrorKind.TheVariants.{WrongOperandTypes}
use Rattle.vocabulary.specs.declared.operator.Operator.{Operator}
use Rattle.meaning_types.specs.Types.{TypeTree, value_type}
use Rattle.meaning_layout.specs.Sizes.{Told}
use Rattle.meaning_operands.specs.Failures as failures
use Rattle.meaning_typing.specs.Facts.{Fact, Expression, ExpressionFact, type_of_value, value}
use Rattle.meaning_typing.specs.Rows.{Row, breaks, breaks_at, gives, nothing}
use Rattle.meaning_typing.specs.Operators.{ValueSort, or_else, target_broken, value_sort, void_alone, void_among}
use Rattle.meaning_typing.specs.Changes as meaning
use Rattle.expression_rows.specs.declared.binary.Taken.{Taken}
use Rattle.expression_rows.specs.declared.binary.Taken.TheVariants as takes

-- what moving a pointer breaks, where one is moved
abbrev pub moved_broken : Told → (token : ℕ) → TypeTree → (moves : Bool) → List failures.Broken
moved_broken told token type_ moves = if moves then target_broken told token type_ else []

-- operands that aren't taken
abbrev pub not_changed : (token first second : ℕ) → ExpressionFact → (of other : ValueSort) → List failures.Broken
not_changed token first second left of other =
    or_else (meaning.place_broken token left ++ void_among first second of other) (breaks_at WrongOperandTypes token)

-- where nothing is known of the right side
abbrev pub left_alone : (token first : ℕ) → ExpressionFact → Row
left_alone token first left = breaks (meaning.place_broken token left ++ void_alone first (value_sort left))

-- by what the operator takes
abbrev pub compound_taking : Taken → Told → Operator → (token first second : ℕ) → (left right : ExpressionFact) → Row
compound_taking takes.Integers told operator token first second left right =
    meaning.integers_changed operator token first second left right (value_sort left) (value_sort right)
compound_taking takes.Step told operator token first second left right =
    meaning.moved told operator token first second left right (value_sort left) (value_sort right)
compound_taking taken told operator token first second left right = nothing

-- Places that are written

-- the type of the value: that of the place, or of the value that was there
abbrev pub written_type : ExpressionFact → (before : Bool) → TypeTree
written_type expression before = if before then value_type expression.type_ else type_of_value expression

abbrev pub stored_given : Told → (token : ℕ) → ExpressionFact → (before moves : Bool) → List failures.Failure → Row
stored_given told token expression before moves failing =
    gives (value (written_type expression before))
    (meaning.place_broken token expression ++ moved_broken told token (type_of_value expression) moves) failing

-- an operand of `++` or `--` that isn't taken
abbrev pub not_stepped : (token operand : ℕ) → ExpressionFact → ValueSort → List failures.Broken
not_stepped token operand expression of =
    or_else (meaning.place_broken token expression ++ void_alone operand of) (breaks_at WrongOperandTypes token)

-- `++` and `--`, before their operand or behind it
abbrev pub step_row : Told → Operator → (token operand : ℕ) → Fact → (before : Bool) → Row
step_row told operator token operand (Expression expression) before =
    meaning.stepped told operator token operand expression (written_type expression before) (value_sort expression)
step_row told operator token operand fact before = nothing
