-- How rows are seen: of what is broken, and of the tokens at which a limit is passed, the least.
use Rattle.std.specs.Prelude.{◌≡◌, ℕ, List, [], ◌++◌, Option, Some, None, option_map}
use Rattle.sparse_model.specs.declared.failure.Failure.{Failure}
use Rattle.meaning_operands.specs.Failures as meaning
use Rattle.meaning_typing.specs.Facts.{Fact}
use Rattle.meaning_typing.specs.Rows.{Row}
use Rattle.expression_rows.specs.Rules.{least_broken, least_token}
use Rattle.c_types.specs.Table.{TypeTable}
use Rattle.node_facts.specs.declared.expression.ExpressionFact.{ExpressionFact}
use Rattle.node_facts.specs.declared.fact.NodeFact.{NodeFact}
use Rattle.node_facts.specs.declared.fact.NodeFact.TheVariants as facts
use Rattle.node_facts.specs.Facts.{IsKnownNodeFact, node_seen}
use Rattle.node_facts.specs.Growing.{TypesJoin}
use Rattle.expression_rows.specs.declared.row.Row as expr
use Rattle.expression_rows.specs.declared.row.RowFailures.{RowFailures}
use Rattle.expression_rows.specs.Arguments.{Appends, listed_failure}
use Rattle.expression_rows.specs.Rows.{broken_seen}
use Rattle.expr_judge.specs.declared.row.NodeRow.{NodeRow}

-- what is kept of a row besides its failures
pub record KeptRow : Type 0 where
  pub fact : Fact
  pub broken : Option meaning.Broken
  pub passed : Option ℕ

abbrev pub row_kept : Row → KeptRow
row_kept row = record { fact = row.fact; broken = least_broken row.broken; passed = least_token row.passed }

abbrev pub row_seen : TypeTable → NodeRow → KeptRow
row_seen table row = record { fact = node_seen table row.fact; broken = option_map broken_seen row.broken; passed = row.passed }

-- This is what a row says: it is kept so, and its failures are appended. Types may join the table.
pub record Tells (old new : TypeTable) (before after : List Failure) (said : NodeRow) (meant : Row) : Type 0 where
  pub row : row_seen new said ≡ row_kept meant
  pub ids : IsKnownNodeFact new said.fact
  pub failures : Appends new before after meant.failures
  pub keeps : TypesJoin old new

-- the same of a row by which no rule fails
pub record SaysOnly (table : TypeTable) (said : NodeRow) (meant : Row) : Type 0 where
  pub row : row_seen table said ≡ row_kept meant
  pub ids : IsKnownNodeFact table said.fact
  pub silent : meant.failures ≡ []

-- Rows as they are made

abbrev pub known_row : NodeFact → NodeRow
known_row fact = record { fact = fact; broken = None; passed = None }

abbrev pub fact_of_part : Option ExpressionFact → NodeFact
fact_of_part None = facts.Unknown
fact_of_part (Some expression) = facts.Expression expression

-- the row of an expression or a statement, but for its failures
abbrev pub node_row : expr.Row → NodeRow
node_row row = record { fact = fact_of_part row.fact; broken = row.broken; passed = None }

abbrev pub listed_failures : RowFailures → List Failure
listed_failures failures = listed_failure failures.first ++ listed_failure failures.second
