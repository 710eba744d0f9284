-- Rows ask of a part nothing but an expression.
use Rattle.std.proofs.Common.{◌≡◌, ℕ, Bool, true, false, List, if◌then◌else◌, refl, ap, ◌∙◌}
use Rattle.vocabulary.specs.declared.operator.Operator.{Operator}
use Rattle.meaning_layout.specs.Sizes.{Told}
use Rattle.meaning_typing.specs.Aggregates.{KnownAggregates, is_const_within}
use Rattle.meaning_typing.specs.Changes.{compound_row}
use Rattle.meaning_typing.specs.Expressions.{Argument, assignment_row}
use Rattle.meaning_typing.specs.Facts.{Fact, Expression, ExpressionFact}
use Rattle.meaning_typing.specs.Members.{member_row, pointer_member_row}
use Rattle.meaning_typing.specs.Wholes.{and_breaks, as_stored, callee_broken, element_broken, incomplete_at, unless_incomplete, whole_assignment_row, whole_call_row, whole_compound_row, whole_step_before_row, whole_step_behind_row, whole_subscript_row}
use Rattle.expr_judge.specs.Parts.{only_arguments, only_expression}
use Rattle.expr_judge.proofs.OperandLemmas.{compound_only, step_before_only, step_behind_only}
use Rattle.expr_judge.proofs.PartLemmas.{assignment_only, call_only, subscript_only}

module _ (aggregates : KnownAggregates) where
  pub member_only : (token operand : ℕ) (name : List ℕ) (fact : Fact)
      → member_row aggregates token operand name (only_expression fact) ≡ member_row aggregates token operand name fact
  member_only token operand name (Expression expression) = refl
  member_only token operand name fact = refl

  pub pointer_only : (token operand : ℕ) (name : List ℕ) (fact : Fact)
      → pointer_member_row aggregates token operand name (only_expression fact) ≡ pointer_member_row aggregates token operand name fact
  pointer_only token operand name (Expression expression) = refl
  pointer_only token operand name fact = refl

  -- What is stored to

  one_only : (test : Bool) (expression other : ExpressionFact)
      → (if test then Expression expression else Expression other) ≡ only_expression (if test then Expression expression else Expression other)
  one_only true expression other = refl
  one_only false expression other = refl

  stored_only : (fact : Fact) → as_stored aggregates (only_expression fact) ≡ only_expression (as_stored aggregates fact)
  stored_only (Expression expression) = one_only (is_const_within aggregates.has_const expression.type_) _ expression
  stored_only fact = refl

  incomplete_only : (token : ℕ) (fact : Fact) → incomplete_at aggregates.told token (only_expression fact) ≡ incomplete_at aggregates.told token fact
  incomplete_only token (Expression expression) = refl
  incomplete_only token fact = refl

  pub whole_assignment_only : (token second : ℕ) (left right : Fact)
      → whole_assignment_row aggregates token second (only_expression left) (only_expression right) ≡ whole_assignment_row aggregates token second left right
  whole_assignment_only token second left right =
      λ i. and_breaks
      ((ap (λ place. assignment_row token second place (only_expression right)) (stored_only left)
      ∙ assignment_only token second (as_stored aggregates left) right) i)
      (incomplete_only token left i)

  module _ (operator : Operator) (token first : ℕ) where
    pub whole_step_behind_only : (fact : Fact)
        → whole_step_behind_row aggregates operator token first (only_expression fact) ≡ whole_step_behind_row aggregates operator token first fact
    whole_step_behind_only (Expression expression) = refl
    whole_step_behind_only fact = step_behind_only aggregates.told operator token first fact

    pub whole_step_before_only : (fact : Fact)
        → whole_step_before_row aggregates operator token first (only_expression fact) ≡ whole_step_before_row aggregates operator token first fact
    whole_step_before_only (Expression expression) = refl
    whole_step_before_only fact = step_before_only aggregates.told operator token first fact

    stored_compound : (second : ℕ) (left right : Fact)
        → compound_row aggregates.told operator token first second (as_stored aggregates (only_expression left)) (only_expression right)
        ≡ compound_row aggregates.told operator token first second (as_stored aggregates left) right
    stored_compound second left right =
        ap (λ place. compound_row aggregates.told operator token first second place (only_expression right)) (stored_only left)
        ∙ compound_only operator token first second aggregates.told (as_stored aggregates left) right

    pub whole_compound_only : (second : ℕ) (left right : Fact)
        → whole_compound_row aggregates operator token first second (only_expression left) (only_expression right)
        ≡ whole_compound_row aggregates operator token first second left right
    whole_compound_only second (Expression left) right =
        ap (unless_incomplete aggregates.told token first (Expression left)) (stored_compound second (Expression left) right)
    whole_compound_only second left right = stored_compound second left right

module _ (told : Told) where
  pub whole_subscript_only : (token first second : ℕ) (left right : Fact)
      → whole_subscript_row told token first second (only_expression left) (only_expression right) ≡ whole_subscript_row told token first second left right
  whole_subscript_only token first second left right =
      ap (λ row. and_breaks row (element_broken told token row.fact)) (subscript_only token first second left right)

  callee_only : (token : ℕ) (fact : Fact) → callee_broken told token (only_expression fact) ≡ callee_broken told token fact
  callee_only token (Expression callee) = refl
  callee_only token fact = refl

  pub whole_call_only : (token called : ℕ) (callee : Fact) (arguments : List Argument)
      → whole_call_row told token called (only_expression callee) (only_arguments arguments) ≡ whole_call_row told token called callee arguments
  whole_call_only token called callee arguments = λ i. and_breaks (call_only token called callee arguments i) (callee_only token callee i)
