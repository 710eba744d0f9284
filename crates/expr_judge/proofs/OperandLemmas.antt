-- Rows of operators ask of a part nothing but an expression.
use Rattle.std.proofs.Common.{◌≡◌, ℕ, Bool, List, ℤ, Option, Some, None, option_map, refl, ap, ◌∙◌}
use Rattle.vocabulary.specs.declared.int_kind.IntKind.TheVariants as integers
use Rattle.vocabulary.specs.declared.operator.Operator.{Operator}
use Rattle.meaning_layout.specs.Sizes.{Told}
use Rattle.meaning_typing.specs.Casts.{cast_row, expect_row}
use Rattle.meaning_typing.specs.Changes.{compound_row, step_before_row, step_behind_row}
use Rattle.meaning_typing.specs.Conditionals.{arms_row, conditional_row, with_condition}
use Rattle.meaning_typing.specs.Declarators.{named_if}
use Rattle.meaning_typing.specs.Facts.{Fact, Unknown, Expression, NamedType, value}
use Rattle.meaning_typing.specs.Operators.{binary_row, comma_row, integer, logical_row, not_row, statement_expression_row, unary_row}
use Rattle.meaning_typing.specs.Rows.{Converted, Row, both_converted, gives}
use Rattle.meaning_typing.specs.Specifiers.{type_named}
use Rattle.c_types.specs.Table.{TypeTable, type_at}
use Rattle.sparse_model.specs.declared.ids.TypeId.{TypeId}
use Rattle.expression_rows.specs.Casts.{named_part}
use Rattle.node_facts.specs.Growing.{TypesJoin}
use Rattle.meaning_typing.specs.Units.{UnitNodes}
use Rattle.expr_judge.specs.declared.operands.TwoOperands.{TwoOperands}
use Rattle.expr_judge.specs.Operators.{AreOperandsOf}
use Rattle.expr_judge.specs.Parts.{only_expression}
use Rattle.expr_judge.proofs.PartLemmas.{passed_only, value_known, value_later}

pub unary_only : (operator : Operator) (token operand : ℕ) (fact : Fact) → unary_row operator token operand (only_expression fact) ≡ unary_row operator token operand fact
unary_only operator token operand (Expression expression) = refl
unary_only operator token operand fact = refl

pub not_only : (token operand : ℕ) (fact : Fact) → not_row token operand (only_expression fact) ≡ not_row token operand fact
not_only token operand (Expression expression) = refl
not_only token operand fact = refl

module _ (told : Told) (operator : Operator) (token operand : ℕ) where
  pub step_behind_only : (fact : Fact) → step_behind_row told operator token operand (only_expression fact) ≡ step_behind_row told operator token operand fact
  step_behind_only (Expression expression) = refl
  step_behind_only fact = refl

  pub step_before_only : (fact : Fact) → step_before_row told operator token operand (only_expression fact) ≡ step_before_row told operator token operand fact
  step_before_only (Expression expression) = refl
  step_before_only fact = refl

module _ (operator : Operator) (token first second : ℕ) where
  pub binary_only : (told : Told) (left right : Fact)
      → binary_row told operator token first second (only_expression left) (only_expression right) ≡ binary_row told operator token first second left right
  binary_only told (Expression left) (Expression right) = refl
  binary_only told (Expression left) right = refl
  binary_only told left (Expression right) = refl
  binary_only told left right = refl

  pub logical_only : (left right : Fact)
      → logical_row operator token first second (only_expression left) (only_expression right) ≡ logical_row operator token first second left right
  logical_only (Expression left) (Expression right) = refl
  logical_only (Expression left) right = refl
  logical_only left (Expression right) = refl
  logical_only left right = refl

  pub compound_only : (told : Told) (left right : Fact)
      → compound_row told operator token first second (only_expression left) (only_expression right) ≡ compound_row told operator token first second left right
  compound_only told (Expression left) (Expression right) = refl
  compound_only told (Expression left) right = refl
  compound_only told left (Expression right) = refl
  compound_only told left right = refl

pub comma_only : (right : Fact) → comma_row (only_expression right) ≡ comma_row right
comma_only (Expression right) = refl
comma_only right = refl

arms_only : (condition : Option ℤ) (token second third : ℕ) (left right : Fact)
    → arms_row condition token second third (only_expression left) (only_expression right) ≡ arms_row condition token second third left right
arms_only condition token second third (Expression left) (Expression right) = refl
arms_only condition token second third (Expression left) right = refl
arms_only condition token second third left right = refl

pub conditional_only : (token first second third : ℕ) (condition left right : Fact)
    → conditional_row token first second third (only_expression condition) (only_expression left) (only_expression right)
    ≡ conditional_row token first second third condition left right
conditional_only token first second third (Expression condition) left right =
    ap (with_condition token first condition) (arms_only condition.constant token second third left right)
conditional_only token first second third condition left right =
    ap (λ (row : Row). record row { fact = Unknown }) (arms_only None token second third left right)

pub expect_only : (first second : ℕ) (left right : Fact) → expect_row first second (only_expression left) (only_expression right) ≡ expect_row first second left right
expect_only first second left right =
    λ i. expected (both_converted (passed_only 1 first left (integer integers.Long) i) (passed_only 2 second right (integer integers.Long) i))
  where
    expected : Converted → Row
    expected both = gives (value (integer integers.Long)) both.broken both.failures

pub statement_only : (last : Option Fact) → statement_expression_row (option_map only_expression last) ≡ statement_expression_row last
statement_only None = refl
statement_only (Some last) = comma_only last

pub cast_only : (token : ℕ) (forced : Bool) (name operand : Fact)
    → cast_row token forced (named_if (type_named name)) (only_expression operand) ≡ cast_row token forced name operand
cast_only token forced (NamedType to) (Expression expression) = refl
cast_only token forced (NamedType to) operand = refl
cast_only token forced name operand = refl

pub named_part-is : (table : TypeTable) (named : Option TypeId) → named_part table named ≡ named_if (option_map (type_at table) named)
named_part-is table None = refl
named_part-is table (Some to) = refl

-- Operands over a table that types joined

pub operands_later : (nodes : UnitNodes) (facts : List Fact) (handle : ℕ) (old new : TypeTable) (found : TwoOperands) → TypesJoin old new
    → AreOperandsOf nodes facts handle old found → AreOperandsOf nodes facts handle new found
operands_later nodes facts handle old new found join are =
    record {
      token = are.token;
      first = are.first;
      second = are.second;
      left = value_later old new join found.left are.left_valued ∙ are.left;
      right = value_later old new join found.right are.right_valued ∙ are.right;
      left_valued = value_known old new join found.left are.left_valued;
      right_valued = value_known old new join found.right are.right_valued;
    }
