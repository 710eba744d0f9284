-- The rows of the nodes of a unit over what is known of those before them, and what is answered of one.
use Rattle.std.specs.Prelude.{ℕ, List, ◌++◌}
use Rattle.sparse_model.specs.declared.failure.Failure.{Failure}
use Rattle.meaning_initialized.specs.Rows.{IsInitializingRow}
use Rattle.meaning_judgements.specs.UnitRows.{with_statement}
use Rattle.meaning_statements.specs.StatementRows.{statement_row_at}
use Rattle.meaning_typing.specs.Facts.{Fact}
use Rattle.meaning_typing.specs.MemberRows.{aggregates_before}
use Rattle.meaning_typing.specs.Rows.{Row}
use Rattle.meaning_typing.specs.Surroundings.{Surrounding, surrounding_at}
use Rattle.meaning_typing.specs.Typing.{access_failures, token_at}
use Rattle.meaning_typing.specs.Units.{UnitNodes}
use Rattle.meaning_typing.specs.WholeTyping.{whole_row_at}
use Rattle.meaning_units.specs.UnitRows.{IsUnitRow}
use Rattle.expr_judge.specs.declared.row.NodeRow.{NodeRow}
use Rattle.expr_judge.specs.Rows.{Tells}
use Rattle.node_judge.specs.declared.known.Known.{Known}
use Rattle.node_judge.specs.Known.{facts_seen, table_of}

-- the row of a node with what its statement breaks and which rules fail there
abbrev pub row_with_statement : UnitNodes → List Surrounding → (earlier : List Fact) → (handle : ℕ) → Row
row_with_statement nodes surroundings earlier handle =
    with_statement (whole_row_at nodes surroundings earlier handle) (statement_row_at nodes surroundings earlier handle)

-- a row with the failure of its access
abbrev pub accessed : UnitNodes → List Surrounding → (handle : ℕ) → Row → Row
accessed nodes surroundings handle row =
    record row { failures = row.failures ++ access_failures (token_at nodes handle) (surrounding_at surroundings handle) row.fact }

-- What is answered of a node, over what was known of those before it

module _ (nodes : UnitNodes) (surroundings : List Surrounding) (old new : Known) (handle : ℕ) (before after : List Failure) (said : NodeRow) where
  -- this is said of a node that initializes something
  abbrev pub TellsInitializing : Type 0
  TellsInitializing =
      (row : Row) × IsInitializingRow (aggregates_before nodes surroundings (facts_seen old)).told nodes surroundings (facts_seen old) handle row
      × Tells (table_of old) (table_of new) before after said row

  -- this is what its row says
  abbrev pub TellsUnitRow : Type 0
  TellsUnitRow =
      (row : Row) × IsUnitRow nodes surroundings (facts_seen old) handle row × Tells (table_of old) (table_of new) before after said row

  -- with the failure of its access
  abbrev pub TellsAccessedRow : Type 0
  TellsAccessedRow =
      (row : Row) × IsUnitRow nodes surroundings (facts_seen old) handle row
      × Tells (table_of old) (table_of new) before after said (accessed nodes surroundings handle row)
