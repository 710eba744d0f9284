-- Rows of tags, of structures and unions, and of enumerations, as rows of nodes.
use Rattle.std.specs.Prelude.{ℕ, Option, Some, None}
use Rattle.meaning_operands.specs.Failures as meaning
use Rattle.meaning_rules.specs.Rules.{lesser}
use Rattle.meaning_typing.specs.Facts.{Unknown}
use Rattle.aggregate_rows.specs.declared.row.AggregateRow.{AggregateRow}
use Rattle.enum_rows.specs.declared.row.EnumRow.{EnumRow}
use Rattle.expr_judge.specs.declared.row.NodeRow.{NodeRow}
use Rattle.expr_judge.specs.Rows.{KeptRow}
use Rattle.tag_rows.specs.declared.row.TagRow.{TagRow}

abbrev pub tag_taken : TagRow → NodeRow
tag_taken row = record { fact = row.fact; broken = row.broken; passed = None }

abbrev pub aggregate_taken : AggregateRow → NodeRow
aggregate_taken row = record { fact = row.fact; broken = row.broken; passed = row.passed }

-- its failure is appended besides
abbrev pub enum_taken : EnumRow → NodeRow
enum_taken row = record { fact = row.fact; broken = row.broken; passed = None }

-- a row at whose tag this is broken, if something is
abbrev pub kept_tagged : Option meaning.Broken → KeptRow → KeptRow
kept_tagged None row = row
kept_tagged (Some broken) row = record row { fact = Unknown; broken = lesser (Some broken) row.broken }
