-- What a node of a unit breaks and which rules fail at it: what its own row says, where aggregates are known, and what the row of its
-- statement says besides.
use Rattle.std.specs.Prelude.{ℕ, List, ◌++◌}
use Rattle.vocabulary.specs.declared.node_kind.NodeKind.{NodeKind}
use Rattle.vocabulary.specs.declared.node_kind.NodeKind.TheVariants as kinds
use Rattle.meaning_typing.specs.Facts.{Fact}
use Rattle.meaning_typing.specs.Rows.{Row}
use Rattle.meaning_typing.specs.Surroundings.{Surrounding}
use Rattle.meaning_typing.specs.Units.{UnitNodes, kind_at}
use Rattle.meaning_typing.specs.WholeTyping.{whole_row_at}
use Rattle.meaning_statements.specs.StatementRows.{statement_row_at}

-- A function and a statement expression have both: what their jumps break is decided there, and the expression keeps its type.
abbrev pub with_statement : Row → (statement : Row) → Row
with_statement row statement = record row { broken = row.broken ++ statement.broken; failures = row.failures ++ statement.failures }

-- by the kind of the node: of `return` the row of the statement says all, its conversion too (C11 6.8.6.4)
abbrev pub row_by_statement : NodeKind → Row → (statement : Row) → Row
row_by_statement kinds.ReturnStatement row statement = statement
row_by_statement kind row statement = with_statement row statement

-- the row of a node of a unit, over what is known of the nodes before it
abbrev pub unit_row_at : UnitNodes → List Surrounding → (earlier : List Fact) → (handle : ℕ) → Row
unit_row_at nodes surroundings earlier handle =
    row_by_statement (kind_at nodes handle) (whole_row_at nodes surroundings earlier handle) (statement_row_at nodes surroundings earlier handle)
