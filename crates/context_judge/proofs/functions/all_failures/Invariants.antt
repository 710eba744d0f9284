-- What fails at the nodes so far.
use Rattle.c_types.specs.Table.{TypeTable}
use Rattle.meaning_contexts.specs.Failures.{AreFailuresBefore}
use Rattle.type_judge.specs.Found.{AreKnownFailures, found_seen}
use Rattle.linear_code.specs.Known.{judged_unit}
use Rattle.judged_control.specs.Judged.{known_of_nodes}
use Rattle.context_judge.proofs.functions.all_failures.Given as goal

abbrev pub invariant-loop-handle : goal.invariant-loop-handle
invariant-loop-handle l =
    record {
      seen : (table : TypeTable) → AreFailuresBefore (judged_unit l.unit (known_of_nodes l.facts)) l.handle (found_seen table l.failures);
      known : (table : TypeTable) → AreKnownFailures table l.failures;
    }
