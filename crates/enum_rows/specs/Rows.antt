-- How the row of an enumerator or an enumeration is seen.
use Rattle.std.specs.Prelude.{ℕ, [], Some, None, IfSome, option_map}
use Rattle.vocabulary.specs.declared.error_kind.ErrorKind.{ErrorKind}
use Rattle.c_types.specs.Table.{TypeTable}
use Rattle.node_facts.specs.declared.fact.NodeFact.{NodeFact}
use Rattle.node_facts.specs.declared.fact.NodeFact.TheVariants as facts
use Rattle.node_facts.specs.Facts.{IsKnownNodeFact, node_seen}
use Rattle.expression_rows.specs.Rows.{Told, IsKnownFailure, broken_at, broken_seen, failure_listed}
use Rattle.enum_rows.specs.declared.row.EnumRow.{EnumRow}

-- none of them passes the limit of the size of an object
abbrev pub row_seen : TypeTable → EnumRow → Told
row_seen table row =
    record {
      fact = node_seen table row.fact;
      broken = option_map broken_seen row.broken;
      failures = failure_listed table row.failure;
      passed = [];
    }

-- its types are of the table
pub record IsKnownRow (table : TypeTable) (row : EnumRow) : Type 0 where
  pub fact : IsKnownNodeFact table row.fact
  pub failure : IfSome row.failure (IsKnownFailure table)

-- Rows as they are made

abbrev pub known_row : NodeFact → EnumRow
known_row fact = record { fact = fact; broken = None; failure = None }

abbrev pub broken_row : ErrorKind → (token : ℕ) → EnumRow
broken_row constraint token = record { fact = facts.Unknown; broken = Some (broken_at constraint token); failure = None }
