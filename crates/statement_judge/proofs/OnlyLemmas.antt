-- Statements ask of their parts nothing but expressions.
use Rattle.std.proofs.Common.{◌≡◌, ℕ, Bool, Option, Some, None, refl, option_map}
use Rattle.meaning_types.specs.Types.{TypeTree}
use Rattle.meaning_typing.specs.Facts.{Expression, Fact}
use Rattle.meaning_statements.specs.Statements.{case_row, condition_row, do_row, number_of_label, switch_row, whole_return_row}
use Rattle.expr_judge.specs.Parts.{only_expression}

pub condition_only : (token operand : ℕ) (fact : Fact) → condition_row token operand (only_expression fact) ≡ condition_row token operand fact
condition_only token operand (Expression expression) = refl
condition_only token operand fact = refl

pub do_only : (token operand : ℕ) (braced : Bool) (fact : Fact) → do_row token operand braced (only_expression fact) ≡ do_row token operand braced fact
do_only token operand braced (Expression expression) = refl
do_only token operand braced fact = refl

pub switch_only : (token operand : ℕ) (fact : Fact) → switch_row token operand (only_expression fact) ≡ switch_row token operand fact
switch_only token operand (Expression expression) = refl
switch_only token operand fact = refl

pub number_only : (switched label : Fact) → number_of_label (only_expression switched) (only_expression label) ≡ number_of_label switched label
number_only (Expression switched) (Expression label) = refl
number_only (Expression switched) label = refl
number_only switched (Expression label) = refl
number_only switched label = refl

pub case_only : (token value : ℕ) (switch : Option ℕ) (enters : Bool) (label switched : Fact) (earliest : Option ℕ)
    → case_row token value switch enters (only_expression label) (only_expression switched) earliest
    ≡ case_row token value switch enters label switched earliest
case_only token value switch enters (Expression label) (Expression switched) earliest = refl
case_only token value switch enters (Expression label) switched earliest = refl
case_only token value switch enters label (Expression switched) earliest = refl
case_only token value switch enters label switched earliest = refl

pub return_only : (token value : ℕ) (fact : Option Fact) (result : Option TypeTree)
    → whole_return_row token value (option_map only_expression fact) result ≡ whole_return_row token value fact result
return_only token value None result = refl
return_only token value (Some (Expression expression)) None = refl
return_only token value (Some (Expression expression)) (Some result) = refl
return_only token value (Some fact) None = refl
return_only token value (Some fact) (Some result) = refl
