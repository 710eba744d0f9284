-- Operands of operators as they are looked up, and the kinds of constants that operators have.
use Rattle.std.specs.Prelude.{◌≡◌, ℕ, List, Option, Some, None, IfSome}
use Rattle.vocabulary.specs.declared.int_kind.IntKind.{IntKind}
use Rattle.vocabulary.specs.declared.node_kind.NodeKind.{NodeKind}
use Rattle.meaning_constants.specs.Constants.{Constant, kind_of}
use Rattle.meaning_constants.specs.Nodes.{loaded_type}
use Rattle.meaning_typing.specs.Conditionals.{conditional_row, conditional_without_middle}
use Rattle.meaning_typing.specs.Facts.{Fact, Expression}
use Rattle.meaning_typing.specs.Rows.{Row}
use Rattle.meaning_typing.specs.Typing.{first_fact, part_fact, part_token, token_at, value_of_statement}
use Rattle.meaning_typing.specs.Units.{UnitNodes}
use Rattle.c_types.specs.Table.{TypeTable}
use Rattle.expression_rows.specs.Facts.{IsValued, valued_part}
use Rattle.expr_judge.specs.declared.operands.OneOperand.{OneOperand}
use Rattle.expr_judge.specs.declared.operands.TwoOperands.{TwoOperands}
use Rattle.expr_judge.specs.Parts.{only_expression}

-- these are the operands of a node, and the tokens at which all stand

pub record IsOperandOf (nodes : UnitNodes) (facts : List Fact) (handle : ℕ) (table : TypeTable) (found : OneOperand) : Type 0 where
  pub token : found.token ≡ token_at nodes handle
  pub standing : found.standing ≡ part_token nodes handle 0
  pub seen : valued_part table found.operand ≡ only_expression (part_fact nodes facts handle 0)
  pub valued : IfSome found.operand (IsValued table)

pub record AreOperandsOf (nodes : UnitNodes) (facts : List Fact) (handle : ℕ) (table : TypeTable) (found : TwoOperands) : Type 0 where
  pub token : found.at.token ≡ token_at nodes handle
  pub first : found.at.first ≡ part_token nodes handle 0
  pub second : found.at.second ≡ part_token nodes handle 1
  pub left : valued_part table found.left ≡ only_expression (part_fact nodes facts handle 0)
  pub right : valued_part table found.right ≡ only_expression (part_fact nodes facts handle 1)
  pub left_valued : IfSome found.left (IsValued table)
  pub right_valued : IfSome found.right (IsValued table)

-- `?:` with its middle operand, and without one
abbrev pub conditional_with : UnitNodes → List Fact → (handle : ℕ) → Row
conditional_with nodes facts handle =
    conditional_row (token_at nodes handle) (part_token nodes handle 0) (part_token nodes handle 1) (part_token nodes handle 2)
    (part_fact nodes facts handle 0) (part_fact nodes facts handle 1) (part_fact nodes facts handle 2)

abbrev pub conditional_without : UnitNodes → List Fact → (handle : ℕ) → Row
conditional_without nodes facts handle =
    conditional_without_middle (token_at nodes handle) (part_token nodes handle 0) (part_token nodes handle 1)
    (part_fact nodes facts handle 0) (part_fact nodes facts handle 1)

-- the value of a statement of this kind and with these parts, if it is an expression statement with one
abbrev pub value_in : NodeKind → List Fact → (handles : List ℕ) → Option Fact
value_in kind facts handles = value_of_statement kind (first_fact facts handles)

-- an expression that has a constant is of the constant's kind

abbrev pub IsOfKind : Option IntKind → Option Constant → Type 0
IsOfKind kind None = Unit {0}
IsOfKind kind (Some constant) = kind ≡ Some constant.kind

abbrev pub HasKindOf : Fact → Option Constant → Type 0
HasKindOf (Expression expression) constant = IsOfKind (kind_of (loaded_type expression.width expression.type_)) constant
HasKindOf fact constant = Unit {0}
