-- Rows of statements as they are made.
use Rattle.std.specs.Prelude.{◌≡◌}
use Rattle.meaning_typing.specs.Rows as meaning
use Rattle.c_types.specs.Table.{TypeTable}
use Rattle.node_facts.specs.Growing.{TypesJoin}
use Rattle.expression_rows.specs.declared.row.Row.{Row}
use Rattle.expression_rows.specs.Rows.{IsKnownRow, row_seen, told}

-- This is what a row says. Types may join the table.
pub record Says (old new : TypeTable) (said : Row) (meant : meaning.Row) : Type 0 where
  pub row : row_seen new said ≡ told meant
  pub known : IsKnownRow new said
  pub keeps : TypesJoin old new
