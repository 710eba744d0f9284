-- Nodes of which nothing is said.
use Rattle.std.proofs.Common.{◌≡◌, ◌≢◌, ℕ, List, refl}
use Rattle.vocabulary.specs.declared.node_kind.NodeKind.{NodeKind}
use Rattle.vocabulary.specs.declared.node_kind.NodeKind.TheVariants as kinds
use Rattle.meaning_typing.specs.Facts.{Fact}
use Rattle.meaning_typing.specs.Rows.{nothing}
use Rattle.meaning_typing.specs.Surroundings.{Surrounding}
use Rattle.meaning_typing.specs.Units.{UnitNodes}
use Rattle.meaning_statements.specs.StatementRows.{statement_row_of}

-- it is no statement with a row, and labels don't belong to it
pub record IsOther (kind : NodeKind) : Type 0 where
  pub label : kind ≢ kinds.LabelStatement
  pub case_label : kind ≢ kinds.CaseStatement
  pub default : kind ≢ kinds.DefaultStatement
  pub condition : kind ≢ kinds.IfStatement
  pub switch : kind ≢ kinds.SwitchStatement
  pub while_statement : kind ≢ kinds.WhileStatement
  pub do_statement : kind ≢ kinds.DoStatement
  pub for_statement : kind ≢ kinds.ForStatement
  pub continue : kind ≢ kinds.ContinueStatement
  pub break : kind ≢ kinds.BreakStatement
  pub return_statement : kind ≢ kinds.ReturnStatement
  pub function : kind ≢ kinds.FunctionDefinition
  pub expression : kind ≢ kinds.StatementExpression

pub nothing_said : (nodes : UnitNodes) (surroundings : List Surrounding) (facts : List Fact) (handle : ℕ) (kind : NodeKind) → IsOther kind
    → statement_row_of nodes surroundings facts handle kind ≡ nothing
nothing_said nodes surroundings facts handle kinds.LabelStatement other = absurd (other.label refl)
nothing_said nodes surroundings facts handle kinds.CaseStatement other = absurd (other.case_label refl)
nothing_said nodes surroundings facts handle kinds.DefaultStatement other = absurd (other.default refl)
nothing_said nodes surroundings facts handle kinds.IfStatement other = absurd (other.condition refl)
nothing_said nodes surroundings facts handle kinds.SwitchStatement other = absurd (other.switch refl)
nothing_said nodes surroundings facts handle kinds.WhileStatement other = absurd (other.while_statement refl)
nothing_said nodes surroundings facts handle kinds.DoStatement other = absurd (other.do_statement refl)
nothing_said nodes surroundings facts handle kinds.ForStatement other = absurd (other.for_statement refl)
nothing_said nodes surroundings facts handle kinds.ContinueStatement other = absurd (other.continue refl)
nothing_said nodes surroundings facts handle kinds.BreakStatement other = absurd (other.break refl)
nothing_said nodes surroundings facts handle kinds.ReturnStatement other = absurd (other.return_statement refl)
nothing_said nodes surroundings facts handle kinds.FunctionDefinition other = absurd (other.function refl)
nothing_said nodes surroundings facts handle kinds.StatementExpression other = absurd (other.expression refl)
nothing_said nodes surroundings facts handle kind other = refl
