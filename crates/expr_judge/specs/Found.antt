-- Failures as they are found, over a table of types.
use Rattle.std.specs.Prelude.{List, All, map}
use Rattle.sparse_model.specs.declared.failure.Failure.{Failure}
use Rattle.meaning_operands.specs.Failures as meaning
use Rattle.c_types.specs.Table.{TypeTable}
use Rattle.expression_rows.specs.Rows.{IsKnownFailure, failure_seen}

abbrev pub found_seen : TypeTable → List Failure → List meaning.Failure
found_seen table failures = map (failure_seen table) failures

-- their types are of the table
abbrev pub AreKnownFailures : TypeTable → List Failure → Type 0
AreKnownFailures table failures = All (IsKnownFailure table) failures
