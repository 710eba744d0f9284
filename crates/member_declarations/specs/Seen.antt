-- How the rows of members are seen by the definitions.
use Rattle.std.specs.Prelude.{[], Option, Some, None, option_map}
use Rattle.sparse_model.specs.declared.failure.Failure.{Failure}
use Rattle.c_types.specs.Table.{TypeTable}
use Rattle.node_facts.specs.declared.fact.NodeFact.{NodeFact}
use Rattle.node_facts.specs.declared.fact.NodeFact.TheVariants as facts
use Rattle.node_facts.specs.Facts.{node_seen}
use Rattle.meaning_operands.specs.Failures as failures
use Rattle.meaning_rules.specs.Rules.{lesser}
use Rattle.expression_rows.specs.declared.row.Broken.{Broken}
use Rattle.expression_rows.specs.Rows.{Told, broken_seen, failure_listed}
use Rattle.member_declarations.specs.declared.row.MemberRow.{MemberRow}

-- no limit is passed
abbrev pub row_seen : TypeTable → MemberRow → Told
row_seen table row =
    record { fact = node_seen table row.fact; broken = option_map broken_seen row.broken; failures = failure_listed table row.failure; passed = [] }

-- what is broken besides leaves what is known
abbrev pub row_breaking : Told → Option failures.Broken → Told
row_breaking row broken = record row { broken = lesser row.broken broken }

-- Rows as they are made

abbrev pub known_row : NodeFact → MemberRow
known_row fact = record { fact = fact; broken = None; failure = None }

-- it is known, unless something is broken
abbrev pub row_unless : Option Broken → NodeFact → Option Failure → MemberRow
row_unless None fact failure = record { fact = fact; broken = None; failure = failure }
row_unless (Some broken) fact failure = record { fact = facts.Unknown; broken = Some broken; failure = failure }
