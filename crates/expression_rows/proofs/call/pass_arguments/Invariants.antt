use Rattle.std.proofs.Common.{All, option_map, length}
use Rattle.c_types.specs.Table.{IsTypeId}
use Rattle.expression_rows.specs.Arguments.{HasFound, IsKnownArgument, passed_all}
use Rattle.expression_rows.specs.Rows.{broken_seen}
use Rattle.expression_rows.proofs.call.pass_arguments.Given as goal

abbrev pub invariant-arguments : goal.invariant-arguments
invariant-arguments l =
    record {
      function : IsTypeId l.types l.parameters;
      known : All (IsKnownArgument l.types) l.rest;
      found : HasFound l.types l.fn.found l.found (option_map broken_seen l.broken) (passed_all l.types l.rest l.part l.parameters)
          (passed_all l.types l.arguments 0 l.fn.function);
    }

abbrev pub decreases-arguments : goal.decreases-arguments
decreases-arguments l = length l.rest
