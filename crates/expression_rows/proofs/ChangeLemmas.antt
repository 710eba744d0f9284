-- Compound assignments, by what their operators take.
use Rattle.std.proofs.Common.{◌≡◌, ℕ, Bool, true, false, ◌&&◌, not, List, refl, sym, ap, append-nil}
use Rattle.vocabulary.specs.declared.operator.Operator.{Operator}
use Rattle.meaning_types.specs.Types.{value_type}
use Rattle.meaning_layout.specs.Sizes.{Told}
use Rattle.meaning_operands.specs.Operators.{Operands, IntegerOperands, ScalarOperands, ElementOperands, SumOperands, DifferenceOperands, StepOperands, ComparedOperands, ArmOperands, AnyOperands}
use Rattle.meaning_operands.specs.Failures.{Failure}
use Rattle.meaning_typing.specs.Facts.{Fact, Unknown, Expression, Specified, Declared, NamedType, ExpressionFact, decays, place, type_of_value, value}
use Rattle.meaning_typing.specs.Rows.{gives}
use Rattle.meaning_typing.specs.Expressions.{is_const, is_modifiable}
use Rattle.meaning_typing.specs.Operators.{value_sort}
use Rattle.meaning_typing.specs.Changes.{compound_by, place_broken, step_before_row, step_behind_row}
use Rattle.expression_rows.specs.Changes.{compound_taking, step_row, stored_given, written_type}
use Rattle.expression_rows.specs.Outcomes.{taken_in}
use Rattle.expression_rows.proofs.RowLemmas.{loaded_place}

pub compound_told : (operands : Operands) (told : Told) (operator : Operator) (token first second : ℕ) (left right : ExpressionFact)
    → compound_taking (taken_in operands) told operator token first second left right
    ≡ compound_by operands told operator token first second left right (value_sort left) (value_sort right)
compound_told IntegerOperands told operator token first second left right = refl
compound_told ScalarOperands told operator token first second left right = refl
compound_told ElementOperands told operator token first second left right = refl
compound_told SumOperands told operator token first second left right = refl
compound_told DifferenceOperands told operator token first second left right = refl
compound_told StepOperands told operator token first second left right = refl
compound_told ComparedOperands told operator token first second left right = refl
compound_told ArmOperands told operator token first second left right = refl
compound_told AnyOperands told operator token first second left right = refl

-- `++` and `--`

-- an integer is no pointer that is moved
pub stored_alone : (told : Told) (token : ℕ) (expression : ExpressionFact) (before : Bool) (failing : List Failure)
    → stored_given told token expression before false failing ≡ gives (value (written_type expression before)) (place_broken token expression) failing
stored_alone told token expression before failing =
    ap (λ broken. gives (value (written_type expression before)) broken failing) (append-nil (place_broken token expression))

pub step_behind_told : (told : Told) (operator : Operator) (token operand : ℕ) (fact : Fact)
    → step_row told operator token operand fact false ≡ step_behind_row told operator token operand fact
step_behind_told told operator token operand Unknown = refl
step_behind_told told operator token operand (Expression expression) = refl
step_behind_told told operator token operand (Specified specifiers) = refl
step_behind_told told operator token operand (Declared declaration) = refl
step_behind_told told operator token operand (NamedType type_) = refl

pub step_before_told : (told : Told) (operator : Operator) (token operand : ℕ) (fact : Fact)
    → step_row told operator token operand fact true ≡ step_before_row told operator token operand fact
step_before_told told operator token operand Unknown = refl
step_before_told told operator token operand (Expression expression) = refl
step_before_told told operator token operand (Specified specifiers) = refl
step_before_told told operator token operand (Declared declaration) = refl
step_before_told told operator token operand (NamedType type_) = refl

-- What is written is loaded

third_of : (first second third : Bool) → (first && second && not third) ≡ true → third ≡ false
third_of first second false holds = refl
third_of true true true holds = sym holds
third_of true false true holds = sym holds
third_of false second true holds = sym holds

pub written_loaded : (expression : ExpressionFact) → is_modifiable expression ≡ true → type_of_value (place expression.type_) ≡ value_type expression.type_
written_loaded expression modifiable =
    loaded_place expression.type_ (third_of expression.is_place (not (is_const expression.type_)) (decays expression.type_) modifiable)
